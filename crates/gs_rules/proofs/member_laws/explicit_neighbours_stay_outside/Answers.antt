use Rattle.gs_rules.proofs.Ordinary.{fanouts_have_none, meshes_have_none}
use Rattle.gs_rules.proofs.member_laws.explicit_neighbours_stay_outside.Goals as goal

pub returns-clause-meshes : goal.returns-clause-meshes
returns-clause-meshes c = meshes_have_none

pub returns-clause-fanouts : goal.returns-clause-fanouts
returns-clause-fanouts c = fanouts_have_none
