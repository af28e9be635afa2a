use Rattle.std.proofs.Common.{◌≡◌, ◌≤◌, ℕ, length}
use Rattle.gs_seats.specs.ListsByPeer.{list_at}
use Rattle.gs_direct.specs.Runs.{HaveClosed}
use Rattle.gs_direct.proofs.run.close_all.Given as goal

-- those so far have shut down
abbrev pub invariant-loop-number : goal.invariant-loop-number
invariant-loop-number g l = record {
  closed : HaveClosed l.now l.fn.peers l.fn.post.mail.items l.number l.peers;
  boxes : length l.post.mail.items ≡ length l.fn.post.mail.items;
  waits : (k : ℕ) → l.number ≤ k → list_at l.post.mail.items k ≡ list_at l.fn.post.mail.items k;
}
