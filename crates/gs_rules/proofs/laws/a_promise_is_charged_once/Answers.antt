use Rattle.gs_rules.proofs.Gossip.{none_overdue}
use Rattle.gs_rules.proofs.laws.a_promise_is_charged_once.Goals as goal

pub returns : goal.returns
returns c = none_overdue
