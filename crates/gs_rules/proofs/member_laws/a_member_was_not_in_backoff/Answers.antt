use Rattle.gs_rules.proofs.CameIn.{came_in}
use Rattle.gs_rules.proofs.UpMembers.{was_rested}
use Rattle.gs_rules.proofs.member_laws.a_member_was_not_in_backoff.Goals as goal

pub returns-clause-member : goal.returns-clause-member
returns-clause-member c = λ p entries q t legal is. came_in p entries q t legal is

pub returns-clause-anybody : goal.returns-clause-anybody
returns-clause-anybody c = λ p later earlier e q t legal among. was_rested p later earlier e q t legal among
