-- What truth values say: of two, of none, and of numbers that are the same.
use Rattle.std.proofs.Common.{◌≡◌, ◌⊎◌, inl, inr, Bool, true, false, ◌&&◌, ◌||◌, refl, sym, ap, eq-eqb, true≢false}
use Rattle.std.proofs.lemmas.Bool.{eqb-true}
use Rattle.gs_base.specs.declared.names.PeerNo.{PeerNo}
use Rattle.gs_base.specs.Names.{same_peer}
use Rattle.gs_seats.specs.Rounds.{peer_no}

pub one_of : (a b : Bool) → (a || b) ≡ true → (a ≡ true) ⊎ (b ≡ true)
one_of true b h = inl refl
one_of false b h = inr h

pub both_of : (a b : Bool) → (a && b) ≡ true → (a ≡ true) × (b ≡ true)
both_of true b h = (refl, h)
both_of false b h = absurd (true≢false (sym h))

pub unless : (b : Bool) → (b ≡ true → ⊥) → b ≡ false
unless true h = absurd (h refl)
unless false h = refl

pub is_same : (p q : PeerNo) → same_peer p q ≡ true → p ≡ q
is_same p q h = ap peer_no (eqb-true p.0 q.0 h)

pub same_self : (p : PeerNo) → same_peer p p ≡ true
same_self p = eq-eqb p.0 p.0 refl
