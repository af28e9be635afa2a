use Rattle.std.proofs.Common.{◌≡◌, false, nat_lt, cond, [], ◌∷◌}
use Rattle.gs_base.specs.declared.names.PeerNo.{PeerNo}
use Rattle.gs_base.specs.Tokens.{Close}
use Rattle.gs_wire.specs.Codec.{codec}
use Rattle.gs_rules.specs.Saying.{Outgoing, cut_out, saying}
use Rattle.gs_peer.specs.Outboxes.{is_open, outgoing_in, place_of}
use Rattle.gs_peer.proofs.BoxPlaces.{told}
use Rattle.gs_peer.proofs.outboxes.Outboxes.close_all.Given as goal

abbrev pub invariant-loop-place : goal.invariant-loop-place
invariant-loop-place l = record {
  closed : (q : PeerNo) → outgoing_in l.self q ≡ told (λ (o : Outgoing). saying (cut_out codec o) (Close ∷ [])) (is_open l.fn.self q) (nat_lt (place_of l.fn.self q) l.place) (outgoing_in l.fn.self q);
  may : (q : PeerNo) → is_open l.self q ≡ cond (nat_lt (place_of l.fn.self q) l.place) false (is_open l.fn.self q);
  places : (q : PeerNo) → place_of l.self q ≡ place_of l.fn.self q;
}
