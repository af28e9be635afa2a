use Rattle.std.proofs.Common.{◌≡◌, ◌+◌}
use Rattle.gs_router.specs.Log.{this_round}
use Rattle.gs_direct.specs.Runs.{trace_at}
use Rattle.gs_direct.specs.Stages.{delivered_to, saturated}
use Rattle.gs_direct.proofs.stages.delivered_by_now.Given as goal

-- what was delivered to those so far is counted
abbrev pub invariant-loop-number : goal.invariant-loop-number
invariant-loop-number g l = l.all ≡ saturated (l.before + delivered_to l.number (λ p. this_round (trace_at l.peers p)))
