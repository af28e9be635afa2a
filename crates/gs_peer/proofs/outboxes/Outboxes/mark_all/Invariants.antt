use Rattle.std.proofs.Common.{◌≡◌, nat_lt, [], ◌∷◌}
use Rattle.gs_base.specs.declared.names.PeerNo.{PeerNo}
use Rattle.gs_base.specs.Tokens.{EndOf}
use Rattle.gs_wire.specs.Codec.{codec}
use Rattle.gs_rules.specs.Saying.{Outgoing, cut_out, saying}
use Rattle.gs_peer.specs.Outboxes.{is_open, outgoing_in, place_of}
use Rattle.gs_peer.proofs.BoxPlaces.{told}
use Rattle.gs_peer.proofs.outboxes.Outboxes.mark_all.Given as goal

abbrev pub invariant-loop-place : goal.invariant-loop-place
invariant-loop-place l = record {
  marked : (q : PeerNo) → outgoing_in l.self q ≡ told (λ (o : Outgoing). saying (cut_out codec o) (EndOf l.round ∷ [])) (is_open l.fn.self q) (nat_lt (place_of l.fn.self q) l.place) (outgoing_in l.fn.self q);
  may : (q : PeerNo) → is_open l.self q ≡ is_open l.fn.self q;
  places : (q : PeerNo) → place_of l.self q ≡ place_of l.fn.self q;
}
