use Rattle.gs_rules.proofs.UpMembers.{member_near, member_up}
use Rattle.gs_rules.proofs.member_laws.mesh_members_are_up.Goals as goal

pub returns-clause-up : goal.returns-clause-up
returns-clause-up c = member_up

pub returns-clause-neighbour : goal.returns-clause-neighbour
returns-clause-neighbour c = member_near
