use Rattle.std.proofs.Common.{◌≡◌, ◌≤◌, ◌<◌, ℕ, true}
use Rattle.gs_peer.specs.Moves.{is_full_at}
use Rattle.gs_peer.proofs.running.first_not_full.Given as goal

-- all is taken of those that were looked at
abbrev pub invariant-loop-place : goal.invariant-loop-place
invariant-loop-place l = (k : ℕ) → l.from ≤ k → k < l.place → is_full_at l.inboxes k ≡ true
