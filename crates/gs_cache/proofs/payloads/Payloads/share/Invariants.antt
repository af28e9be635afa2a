use Rattle.std.proofs.Common.{◌≡◌}
use Rattle.gs_cache.proofs.payloads.Payloads.share.Given as goal

abbrev pub invariant-loop-message : goal.invariant-loop-message
invariant-loop-message l = l.message-items ≡ l.fn.messages
