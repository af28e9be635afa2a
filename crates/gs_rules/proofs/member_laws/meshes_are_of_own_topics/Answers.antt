use Rattle.gs_rules.proofs.Members.{mesh_of_own}
use Rattle.gs_rules.proofs.UpMembers.{mesh_ascends}
use Rattle.gs_rules.proofs.member_laws.meshes_are_of_own_topics.Goals as goal

pub returns-clause-joined : goal.returns-clause-joined
returns-clause-joined c = mesh_of_own

pub returns-clause-ascend : goal.returns-clause-ascend
returns-clause-ascend c = mesh_ascends
