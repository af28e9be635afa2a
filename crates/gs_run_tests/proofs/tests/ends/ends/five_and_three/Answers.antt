use Rattle.std.proofs.Common.{refl}
use Rattle.gs_ends.proofs.Apart.{two_apart}
use Rattle.gs_run_tests.proofs.tests.ends.ends.five_and_three.Goals as goal

pub new-ends-requires : goal.new-ends-requires
new-ends-requires g c = record { apart = two_apart _ _ _ c.in_ok-list.ensures.items refl }
