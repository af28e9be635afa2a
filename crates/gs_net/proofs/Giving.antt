-- What one dial gives each peer.
use Rattle.std.proofs.Common.{◌≡◌, ◌≢◌, true, false, true≢false, ◌⊎◌, ⊎_elim, inl, inr, List, [], ◌∷◌, ◌++◌, refl, sym, ap, ◌∙◌, subst, append_assoc}
use Rattle.std.proofs.lemmas.Bool.{ne_eqb, eq-eqb}
use Rattle.std.proofs.lemmas.Bool.Decides.{eqb_tells}
use Rattle.gs_base.specs.declared.names.PeerNo.{PeerNo}
use Rattle.gs_base.specs.Names.{same_peer}
use Rattle.gs_plan.specs.declared.plan.Dial.{Dial}
use Rattle.gs_ends.specs.Ends.{linked}
use Rattle.gs_seats.specs.Rounds.{peer_no}
use Rattle.gs_seats.proofs.Truths.{same_self}
use Rattle.gs_net.specs.Dials.{Dialled, gives, assigned}

-- ---- peers

-- it is this peer, or another one
same_or_not : (p q : PeerNo) → ((same_peer p q ≡ true) × (p ≡ q)) ⊎ ((same_peer p q ≡ false) × (p.0 ≢ q.0))
same_or_not p q = ⊎_elim (λ (y : (same_peer p q ≡ true) × (p.0 ≡ q.0)). inl (y.0, ap peer_no y.1)) (λ (n : (same_peer p q ≡ false) × (p.0 ≢ q.0)). inr n) (eqb_tells p.0 q.0)

-- two that are not the same have different numbers
pub numbers_apart : (p q : PeerNo) → same_peer p q ≡ false → p.0 ≢ q.0
numbers_apart p q is e = true≢false (sym (eq-eqb p.0 q.0 e) ∙ is)

-- ---- what a dial gives

pub gives_from : (d : Dialled) → gives d d.dial.from ≡ linked d.dial.to d.there d.back ∷ []
gives_from d = rw (same_self d.dial.from) refl

pub gives_to : (d : Dialled) → d.dial.from.0 ≢ d.dial.to.0 → gives d d.dial.to ≡ linked d.dial.from d.back d.there ∷ []
gives_to d apart = rw (ne_eqb d.dial.from.0 d.dial.to.0 apart, same_self d.dial.to) refl

pub gives_none : (d : Dialled) (p : PeerNo) → p.0 ≢ d.dial.from.0 → p.0 ≢ d.dial.to.0 → gives d p ≡ []
gives_none d p a b = rw (ne_eqb d.dial.from.0 p.0 (λ e. a (sym e)), ne_eqb d.dial.to.0 p.0 (λ e. b (sym e))) refl

-- ---- what some dials give

pub assigned-append : (xs ys : List Dialled) (p : PeerNo) → assigned (xs ++ ys) p ≡ assigned xs p ++ assigned ys p
assigned-append [] ys p = refl
assigned-append (x ∷ xs) ys p = ap (λ l. gives x p ++ l) (assigned-append xs ys p) ∙ sym (append_assoc (gives x p) (assigned xs p) (assigned ys p))

-- what is true of the two peers of a dial, and of all others, is true of each
pub at_each : (P : PeerNo → Type 0) (dial : Dial) → P dial.from → P dial.to → ((r : PeerNo) → r.0 ≢ dial.from.0 → r.0 ≢ dial.to.0 → P r) → (r : PeerNo) → P r
at_each P dial from to others r = ⊎_elim
    (λ (e : (same_peer r dial.from ≡ true) × (r ≡ dial.from)). subst P (sym e.1) from)
    (λ (n : (same_peer r dial.from ≡ false) × (r.0 ≢ dial.from.0)). ⊎_elim
    (λ (e : (same_peer r dial.to ≡ true) × (r ≡ dial.to)). subst P (sym e.1) to)
    (λ (m : (same_peer r dial.to ≡ false) × (r.0 ≢ dial.to.0)). others r n.1 m.1) (same_or_not r dial.to)) (same_or_not r dial.from)
