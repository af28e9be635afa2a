-- Lists of slots that grew.
use Rattle.std.proofs.Common.{◌≡◌, ◌≢◌, ◌⊎◌, inl, inr, ⊎_elim, ℕ, ◌+◌, ◌<◌, ◌≤◌, Bool, true, false, nat_eq, if◌then◌else◌, List, [], ◌∷◌, ◌++◌, refl, sym, ap, ◌∙◌, subst, append_assoc, append-nil, length-append, arith}
use Rattle.std.proofs.lemmas.Bool.Decides.{eqb_tells}
use Rattle.gs_base.specs.declared.names.PeerNo.{PeerNo}
use Rattle.gs_base.specs.Names.{same_peer}
use Rattle.gs_link.specs.declared.item.Slot.{Slot}
use Rattle.gs_rules.specs.Rounds.{Phase}
use Rattle.gs_ends.specs.Ends.{GrewBy, OthersStay, slots_of}
use Rattle.gs_peer.specs.Inboxes.{InboxView, Listens}
use Rattle.gs_peer.specs.Outboxes.{AcceptsOne}

-- one peer, or another
pub same_or : (p q : PeerNo) → ((same_peer p q ≡ true) × (p ≡ q)) ⊎ ((same_peer p q ≡ false) × (q ≢ p))
same_or p q = ⊎_elim
    (λ (y : (nat_eq p.0 q.0 ≡ true) × (p.0 ≡ q.0)). inl (y.0, ap (λ (n : ℕ). record { 0 = n }) y.1))
    (λ (n : (nat_eq p.0 q.0 ≡ false) × (p.0 ≢ q.0)). inr (n.0, λ e. n.1 (ap (λ (x : PeerNo). x.0) (sym e)))) (eqb_tells p.0 q.0)

-- nothing changed for any
pub all_stay : (p : PeerNo) (v w : PeerNo → List Slot) → w p ≡ v p → OthersStay p v w → (q : PeerNo) → w q ≡ v q
all_stay p v w mine others q = elim (same_or p q) [ inl y ↦ subst (λ (n : PeerNo). w n ≡ v n) y.1 mine | inr n ↦ others q n.1 ]

pub grew_none : (k : ℕ) (v w : PeerNo → List Slot) → ((q : PeerNo) → w q ≡ v q) → GrewBy k v w
grew_none k v w same = ([], omega arith, λ q. same q ∙ sym (append-nil (v q)))

grew_one : (v w : PeerNo → List Slot) (p : PeerNo) (slot : Slot) → w p ≡ v p ++ slot ∷ [] → OthersStay p v w → GrewBy 1 v w
grew_one v w p slot mine others = (
  (p, slot) ∷ [],
  omega arith,
  λ q. elim (same_or p q) [
    | inl y ↦ subst (λ (n : PeerNo). w n ≡ v n ++ slot ∷ []) y.1 mine ∙ ap (λ (b : Bool). v q ++ (if b then slot ∷ [] else [])) (sym y.0)
    | inr n ↦ others q n.1 ∙ sym (append-nil (v q)) ∙ ap (λ (b : Bool). v q ++ (if b then slot ∷ [] else [])) (sym n.0)
  ],
)

slots-append : (xs ys : List (PeerNo × Slot)) (q : PeerNo) → slots_of (xs ++ ys) q ≡ slots_of xs q ++ slots_of ys q
slots-append [] ys q = refl
slots-append (x ∷ xs) ys q = either (same_peer x.0 q) (slots-append xs ys q)
  where
    either : (b : Bool) → slots_of (xs ++ ys) q ≡ slots_of xs q ++ slots_of ys q → (if b then x.1 ∷ slots_of (xs ++ ys) q else slots_of (xs ++ ys) q) ≡ (if b then x.1 ∷ slots_of xs q else slots_of xs q) ++ slots_of ys q
    either true h = ap (λ (l : List Slot). x.1 ∷ l) h
    either false h = h

pub grew_then : (j k : ℕ) (u v w : PeerNo → List Slot) → GrewBy j u v → GrewBy k v w → GrewBy (j + k) u w
grew_then j k u v w a b = (
  a.0 ++ b.0,
  (let x = a.1 in let y = b.1 in omega (arith, x, y, length-append a.0 b.0)),
  λ q. b.2 q ∙ ap (λ (l : List Slot). l ++ slots_of b.0 q) (a.2 q) ∙ append_assoc (u q) (slots_of a.0 q) (slots_of b.0 q) ∙ ap (λ (l : List Slot). u q ++ l) (sym (slots-append a.0 b.0 q)),
)

pub grew_within : (j k : ℕ) (v w : PeerNo → List Slot) → j ≤ k → GrewBy j v w → GrewBy k v w
grew_within j k v w low a = (a.0, (let x = a.1 in omega (arith, x, low)), a.2)

-- nothing more after, or before
pub grew_after : (k : ℕ) (u v w : PeerNo → List Slot) → GrewBy k u v → ((q : PeerNo) → w q ≡ v q) → GrewBy k u w
grew_after k u v w a same = (a.0, a.1, λ q. same q ∙ a.2 q)

pub grew_before : (k : ℕ) (u v w : PeerNo → List Slot) → ((q : PeerNo) → v q ≡ u q) → GrewBy k v w → GrewBy k u w
grew_before k u v w same a = (a.0, a.1, λ q. a.2 q ∙ ap (λ (l : List Slot). l ++ slots_of a.0 q) (same q))

pub grew_listened : (phase : Phase) (v w : PeerNo → List Slot) (old new : InboxView) → Listens phase (v old.peer) (w old.peer) old new → OthersStay old.peer v w → GrewBy 1 v w
grew_listened phase v w old new (inl h) others = grew_none 1 v w (all_stay old.peer v w h.0 others)
grew_listened phase v w old new (inr h) others = grew_one v w old.peer h.0 h.1 others

pub grew_accepted : (p : PeerNo) (v w : PeerNo → List Slot) → AcceptsOne (v p) (w p) → OthersStay p v w → GrewBy 1 v w
grew_accepted p v w (inl h) others = grew_none 1 v w (all_stay p v w h others)
grew_accepted p v w (inr h) others = grew_one v w p h.0 h.1 others

-- so many, and one more, within a bound
pub grew_step : (j k : ℕ) (u v w : PeerNo → List Slot) → j < k → GrewBy j u v → GrewBy 1 v w → GrewBy k u w
grew_step j k u v w low a b = grew_within (j + 1) k u w (omega (arith, low)) (grew_then j 1 u v w a b)
