use Rattle.gs_program.proofs.Orders.{order_is_free}
use Rattle.gs_program.proofs.options.look_ups_ignore_the_order.Goals as goal

pub returns : goal.returns
returns c = order_is_free
