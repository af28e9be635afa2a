use Rattle.gs_rules.proofs.InOrder.{nothing_after}
use Rattle.gs_rules.proofs.laws.nothing_is_said_after_a_close.Goals as goal

pub returns : goal.returns
returns c = nothing_after
