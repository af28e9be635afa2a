use Rattle.std.proofs.Common.{◌≡◌, ◌<◌, ◌++◌, drop, length}
use Rattle.gs_base.specs.declared.names.PeerNo.{PeerNo}
use Rattle.gs_seats.specs.ListsByPeer.{list_at}
use Rattle.gs_seats.specs.Rounds.{lines_in}
use Rattle.gs_seats.proofs.OwnLines.{own_from}
use Rattle.gs_seats.proofs.lines.lines_by_peer.Given as goal

abbrev pub invariant-loop-place : goal.invariant-loop-place
invariant-loop-place l = record {
  count : length l.lists.items ≡ length l.plan.peers;
  own : (p : PeerNo) → p.0 < length l.plan.peers → list_at l.lists.items p.0 ++ own_from l.place p (drop l.place l.plan.script) ≡ lines_in l.plan p;
}
