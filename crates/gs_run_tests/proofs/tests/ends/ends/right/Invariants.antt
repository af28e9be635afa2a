use Rattle.std.proofs.Common.{◌≡◌}
use Rattle.gs_ends.specs.Lists.{joints_in_lists}
use Rattle.gs_run_tests.proofs.tests.ends.ends.right.Given as goal

abbrev pub invariant-loop-neighbour : goal.invariant-loop-neighbour
invariant-loop-neighbour l = joints_in_lists l.ends ≡ joints_in_lists l.fn.ends
