use Rattle.std.proofs.Common.{◌≡◌, ◌<◌, ◌++◌, drop, filter, length}
use Rattle.gs_base.specs.declared.names.PeerNo.{PeerNo}
use Rattle.gs_seats.specs.ListsByPeer.{list_at}
use Rattle.gs_seats.proofs.own.own_by_peer.Given as goal

-- each list, and what concerns its peer of the rest
abbrev pub invariant-loop-one : goal.invariant-loop-one
invariant-loop-one g l = record {
  many : length l.lists.items ≡ l.count;
  own : (p : PeerNo) → p.0 < l.count → list_at l.lists.items p.0 ++ filter (g.T.Concerning.is_of p) (drop l.one-index l.all) ≡ filter (g.T.Concerning.is_of p) l.all;
}
