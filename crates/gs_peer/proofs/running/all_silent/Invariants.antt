use Rattle.std.proofs.Common.{◌≡◌, true, drop, take}
use Rattle.gs_peer.specs.Moves.{are_silent}
use Rattle.gs_peer.specs.Running.{AllSilent}
use Rattle.gs_peer.proofs.running.all_silent.Given as goal

-- where nothing waits for the rest, nothing waits for any; and nothing does for those that were looked at
abbrev pub invariant-loop-inbox : goal.invariant-loop-inbox
invariant-loop-inbox l = record {
  silent : AllSilent l.outboxes (drop l.inbox-index l.inboxes) → AllSilent l.outboxes l.inboxes;
  exact : are_silent l.outboxes (take l.inbox-index l.inboxes) ≡ true;
}
