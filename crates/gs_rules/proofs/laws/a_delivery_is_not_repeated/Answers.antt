use Rattle.gs_rules.proofs.Deliveries.{deliveries_apart}
use Rattle.gs_rules.proofs.laws.a_delivery_is_not_repeated.Goals as goal

pub returns : goal.returns
returns c = deliveries_apart
