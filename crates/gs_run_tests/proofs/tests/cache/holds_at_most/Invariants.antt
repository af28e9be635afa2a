use Rattle.std.proofs.Common.{◌≤◌, ◌*◌}
use Rattle.gs_run_tests.proofs.tests.cache.holds_at_most.Given as goal

abbrev pub invariant-loop-round : goal.invariant-loop-round
invariant-loop-round l = l.cache.moment ≤ 100 * l.round
