use Rattle.std.proofs.Common.{◌≡◌, ◌≤◌, ◌<◌, ℕ, length, map}
use Rattle.std.specs.List.{range_with_len, AllZip}
use Rattle.gs_seats.specs.ListsByPeer.{list_at}
use Rattle.gs_seats.specs.Rounds.{lines_in, peer_no}
use Rattle.gs_direct.specs.Peers.{IsNewPeer}
use Rattle.gs_direct.proofs.run.peers_of.Given as goal

-- those so far are new peers, and the others' lines are there
abbrev pub invariant-loop-number : goal.invariant-loop-number
invariant-loop-number g l = record {
  new : AllZip (IsNewPeer l.plan) (map peer_no (range_with_len 0 l.number)) l.peers.items;
  lists : length l.lines.items ≡ length l.plan.peers;
  own : (k : ℕ) → l.number ≤ k → k < length l.plan.peers → list_at l.lines.items k ≡ lines_in l.plan (peer_no k);
}
