use Rattle.gs_ends.proofs.Apart.{one_alone}
use Rattle.gs_run_tests.proofs.tests.ends.ends.nine.Goals as goal

pub new-ends-requires : goal.new-ends-requires
new-ends-requires g c = record { apart = one_alone _ _ c.in_ok-list.ensures.items }
