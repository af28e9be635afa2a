use Rattle.std.proofs.Common.{◌≡◌}
use Rattle.gs_ends.specs.Lists.{joints_in_lists}
use Rattle.gs_run_tests.proofs.tests.ends.given.played.Given as goal

abbrev pub invariant-loop-turn : goal.invariant-loop-turn
invariant-loop-turn l = joints_in_lists l.ends ≡ joints_in_lists l.fn.ends
