use Rattle.std.proofs.Common.{◌≡◌, true, [], None, take}
use Rattle.std.specs.List.{AllByRecursion}
use Rattle.gs_base.specs.declared.names.PeerNo.{PeerNo}
use Rattle.gs_peer.specs.Outboxes.{gathered_in, is_neighbour, is_open, waiting}
use Rattle.gs_peer.proofs.outboxes.Outboxes.new.Given as goal

abbrev pub invariant-loop-neighbour : goal.invariant-loop-neighbour
invariant-loop-neighbour l = record {
  may : AllByRecursion (λ q. is_open l.out q ≡ true) (take l.neighbour-index l.neighbours);
  alone : (q : PeerNo) → is_open l.out q ≡ is_neighbour (take l.neighbour-index l.neighbours) q;
  silent : (q : PeerNo) → waiting l.out q ≡ [];
  nothing : (q : PeerNo) → gathered_in l.out q ≡ None;
}
