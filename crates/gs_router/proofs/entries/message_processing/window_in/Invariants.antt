use Rattle.std.proofs.Common.{◌≡◌, drop}
use Rattle.gs_score.specs.Accounts.{params_in}
use Rattle.gs_router.proofs.entries.message_processing.window_in.Given as goal

abbrev pub invariant-loop-known : goal.invariant-loop-known
invariant-loop-known l =
    (params_in (drop l.known-index l.topics) l.topic).timing.p3_window_ms ≡ (params_in l.topics l.topic).timing.p3_window_ms
