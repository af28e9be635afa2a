use Rattle.gs_rules.proofs.AfterShut.{score_stays}
use Rattle.gs_rules.proofs.laws.nothing_changes_a_score_after_a_shut.Goals as goal

pub returns : goal.returns
returns c = λ p later earlier e at q legal is. score_stays p later earlier e at q legal is
