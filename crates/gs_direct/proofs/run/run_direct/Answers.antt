use Rattle.std.proofs.Common.{arith}
use Rattle.gs_seats.proofs.FewDials.{links_fit}
use Rattle.gs_direct.proofs.run.run_direct.Goals as goal

pub overflow_mul-result : goal.overflow_mul-result
overflow_mul-result g c = omega (arith, links_fit c.args.plan.now c.requires)
