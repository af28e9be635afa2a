use Rattle.gs_trace.proofs.FallenLaws.{no_parts_follow, parts_follow}
use Rattle.gs_trace.proofs.laws.what_came_to_nothing_owes_no_parts.Goals as goal

pub returns-clause-follow : goal.returns-clause-follow
returns-clause-follow c = parts_follow

pub returns-clause-none : goal.returns-clause-none
returns-clause-none c = no_parts_follow
