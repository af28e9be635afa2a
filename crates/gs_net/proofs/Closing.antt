-- Ends that are closed one after the other.
use Rattle.std.proofs.Common.{◌≡◌, ◌≢◌, ℕ, zero, suc, ◌+◌, ◌<◌, ◌≤◌, Bool, true, ◌&&◌, ◌⊎◌, ⊎_elim, inl, inr, List, [], ◌∷◌, length, take, set, get_or, refl, sym, ap, ◌∙◌, subst, arith, Vec}
use Rattle.std.specs.Prelude.{AllPairs}
use Rattle.std.specs.List.{AllByRecursion}
use Rattle.std.proofs.lemmas.List.{take_more_set}
use Rattle.std.proofs.lemmas.Bool.Decides.{eqb_tells}
use Rattle.std.specs.declared.alloc.Global.{Global}
use Rattle.gs_ends.specs.Pairs.{Pair, joint_of, joints_of}
use Rattle.gs_seats.specs.ListsByPeer.{list_at}
use Rattle.gs_net.specs.Dials.{AtEach, IsClosed}
use Rattle.gs_seats.proofs.PlaceLists.{list_at-set, list_at-other, list_at-get}
use Rattle.gs_seats.proofs.Truths.{both_of}
use Rattle.gs_net.proofs.Wiring.{all_push}

-- ---- a list

pub joints_set : (pairs : List Pair) (i : ℕ) (new other : Pair) → i < length pairs → joint_of new ≡ joint_of (get_or pairs i other) → joints_of (set pairs i new) ≡ joints_of pairs
joints_set [] i new other within same = refl
joints_set (pair ∷ pairs) zero new other within same = ap (λ x. x ∷ joints_of pairs) same
joints_set (pair ∷ pairs) (suc i) new other within same = ap (λ x. joint_of pair ∷ x) (joints_set pairs i new other (omega arith) same)

-- as far as each was closed
abbrev pub ClosedTo : Bool → ℕ → List Pair → Type 0
ClosedTo closed i pairs = closed ≡ true → AllByRecursion IsClosed (take i pairs)

pub closed_more : (closed one : Bool) (pairs : List Pair) (i : ℕ) (new : Pair) → i < length pairs → ClosedTo closed i pairs → (one ≡ true → IsClosed new) → ClosedTo (closed && one) (i + 1) (set pairs i new)
closed_more closed one pairs i new within before here both =
    let parts = both_of closed one both in
    subst (AllByRecursion IsClosed) (sym (take_more_set pairs i new within)) (all_push IsClosed (take i pairs) new (before parts.0) (here parts.1))

-- ---- lists among lists

abbrev pub ClosedBelow : Bool → ℕ → List (Vec Pair Global) → Type 0
ClosedBelow closed i lists = closed ≡ true → (n : ℕ) → n < i → AllByRecursion IsClosed (list_at lists n)

pub closed_below_more : (closed one : Bool) (lists : List (Vec Pair Global)) (i : ℕ) (new : Vec Pair Global) → i < length lists → ClosedBelow closed i lists → (one ≡ true → AllByRecursion IsClosed new.items) → ClosedBelow (closed && one) (i + 1) (set lists i new)
closed_below_more closed one lists i new within before here both n below = ⊎_elim
    (λ (y : _ × (n ≡ i)). subst (λ m. AllByRecursion IsClosed (list_at (set lists i new) m)) (sym y.1) (subst (AllByRecursion IsClosed) (sym (list_at-set lists i i refl new within)) (here parts.1)))
    (λ (m : _ × (n ≢ i)). let apart = m.1 in subst (AllByRecursion IsClosed) (sym (list_at-other lists i i refl new n apart)) (before parts.0 n (omega (arith, apart)))) (eqb_tells n i)
  where
    parts : (closed ≡ true) × (one ≡ true)
    parts = both_of closed one both

past_end : {A : Type 0} (lists : List (Vec A Global)) (n : ℕ) → length lists ≤ n → list_at lists n ≡ []
past_end [] n past = refl
past_end (x ∷ lists) zero past = absurd (omega arith)
past_end (x ∷ lists) (suc n) past = past_end lists n (omega arith)

below_or_past : (n m : ℕ) → (n < m) ⊎ (m ≤ n)
below_or_past n zero = inr (omega arith)
below_or_past zero (suc m) = inl (omega arith)
below_or_past (suc n) (suc m) = ⊎_elim (λ (l : n < m). inl (omega arith)) (λ (l : m ≤ n). inr (omega arith)) (below_or_past n m)

pub each_closed : (closed : Bool) (lists : List (Vec Pair Global)) (i : ℕ) → length lists ≤ i → ClosedBelow closed i lists → closed ≡ true → AtEach IsClosed lists
each_closed closed lists i past h is p = ⊎_elim
    (λ (l : p.0 < i). h is p.0 l)
    (λ (l : i ≤ p.0). subst (AllByRecursion IsClosed) (sym (past_end lists p.0 (omega arith))) tt) (below_or_past p.0 i)

pub joints_kept : (lists : List (Vec Pair Global)) (i : ℕ) (new old other : Vec Pair Global) → i < length lists → old ≡ get_or lists i other → joints_of new.items ≡ joints_of old.items → (n : ℕ) → joints_of (list_at (set lists i new) n) ≡ joints_of (list_at lists n)
joints_kept lists i new old other within is same n = ⊎_elim
    (λ (y : _ × (n ≡ i)). subst (λ m. joints_of (list_at (set lists i new) m) ≡ joints_of (list_at lists m)) (sym y.1) (ap joints_of (list_at-set lists i i refl new within) ∙ same ∙ sym (ap joints_of (list_at-get lists i i refl other old is within))))
    (λ (m : _ × (n ≢ i)). ap joints_of (list_at-other lists i i refl new n m.1)) (eqb_tells n i)

-- ---- two dials

pub two_differ : {X : Type 0} (R : X → X → Type 0) (x y : X) → R x y → AllPairs R (x ∷ y ∷ [])
two_differ R x y r zero zero d a b = absurd (omega arith)
two_differ R x y r zero (suc zero) d a b = r
two_differ R x y r zero (suc (suc j)) d a b = absurd (omega arith)
two_differ R x y r (suc i) j d a b = absurd (omega arith)
