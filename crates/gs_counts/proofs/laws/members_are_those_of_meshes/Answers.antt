use Rattle.gs_counts.proofs.MeshMembers.{as_many}
use Rattle.gs_counts.proofs.laws.members_are_those_of_meshes.Goals as goal

pub returns : goal.returns
returns c = λ t L. as_many t L
