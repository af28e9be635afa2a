use Rattle.std.proofs.Common.{◌≡◌, true, drop, take}
use Rattle.gs_peer.specs.Moves.{are_full}
use Rattle.gs_peer.specs.Running.{AllFull}
use Rattle.gs_peer.proofs.running.all_full.Given as goal

-- where the rest is full, all are; and all are that were looked at
abbrev pub invariant-loop-inbox : goal.invariant-loop-inbox
invariant-loop-inbox l = record {
  full : AllFull (drop l.inbox-index l.inboxes) → AllFull l.inboxes;
  exact : are_full (take l.inbox-index l.inboxes) ≡ true;
}
