use Rattle.gs_rules.proofs.AfterShut.{mesh_stays, own_stay}
use Rattle.gs_rules.proofs.laws.nothing_changes_a_mesh_after_a_shut.Goals as goal

pub returns-clause-members : goal.returns-clause-members
returns-clause-members c = λ p later earlier e t legal is. mesh_stays p later earlier e t legal is

pub returns-clause-topics : goal.returns-clause-topics
returns-clause-topics c = λ p later earlier e legal is. own_stay p later earlier e legal is
