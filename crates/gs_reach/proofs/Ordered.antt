-- Lists in the order of a number of each element.
use Rattle.std.proofs.Common.{◌≡◌, ◌≤◌, ◌<◌, ℕ, suc, Bool, true, false, not, ◌&&◌, cond, eqb, leb, List, [], ◌∷◌, refl, sym, ap, ◌∙◌, inl, inr, arith}
use Rattle.std.specs.List.{filter, AllByRecursion}
use Rattle.std.specs.List.Sorted.{IsSortedByKey, IsStableByKey, IsNonDecreasingBy}
use Rattle.std.specs.Ordering.{nat_cmp, is_lt}
use Rattle.std.proofs.lemmas.Bool.{cases_order, cond_both, cond-false, eq-eqb, ne_eqb, leb-true, leb-false}
use Rattle.std.proofs.lemmas.Bool.Decides.{eqb_tells, nat_tests}
use Rattle.std.proofs.lemmas.List.Elements.{filter_agree, recursion_from_All}
use Rattle.std.proofs.lemmas.List.Sorted.{IsNonDecreasingBy-from_sort}
use Rattle.gs_reach.specs.Order.{ascending, placed}

-- neither of two numbers is below the other where they are the same
tie : (a b : ℕ) → (not (is_lt (nat_cmp a b)) && not (is_lt (nat_cmp b a))) ≡ eqb a b
tie a b = grind (arith, nat_tests)

tail_same : {X : Type 0} (b : Bool) (x y : X) (xs ys : List X) → cond b (x ∷ xs) xs ≡ cond b (y ∷ ys) ys → xs ≡ ys
tail_same true x y xs ys e = cc
tail_same false x y xs ys e = e

head_same : {X : Type 0} (b c : Bool) (x y : X) (xs ys : List X) → b ≡ true → c ≡ true → cond b (x ∷ xs) xs ≡ cond c (y ∷ ys) ys → x ≡ y
head_same true true x y xs ys p q e = cc
head_same true false x y xs ys p q e = absurd cc
head_same false c x y xs ys p q e = absurd cc

not_none : {X : Type 0} (b : Bool) (x : X) (xs : List X) → b ≡ true → cond b (x ∷ xs) xs ≡ [] → ⊥
not_none true x xs p e = cc
not_none false x xs p e = cc

module _ {X : Type 0} (number : X → ℕ) where
  abbrev is_of : ℕ → X → Bool
  is_of n y = eqb n (number y)

  -- each has this number or a higher one
  abbrev pub From : ℕ → List X → Type 0
  From n xs = AllByRecursion (λ x. n ≤ number x) xs

  abbrev pub Ascends : List X → Type 0
  Ascends [] = Unit {0}
  Ascends (x ∷ xs) = From (number x) xs × Ascends xs

  From-below : (n m : ℕ) (xs : List X) → n ≤ m → From m xs → From n xs
  From-below n m [] le f = tt
  From-below n m (x ∷ xs) le f = (omega (arith, f.0), From-below n m xs le f.1)

  none_of : (n m : ℕ) (xs : List X) → n < m → From m xs → filter (is_of n) xs ≡ []
  none_of n m [] lt f = refl
  none_of n m (x ∷ xs) lt f =
      cond-false (eqb n (number x)) _ _ (ne_eqb n (number x) (λ e. omega (arith, f.0))) ∙ none_of n m xs lt f.1

  same : (xs ys : List X) → Ascends xs → Ascends ys → ((z : X) → filter (is_of (number z)) xs ≡ filter (is_of (number z)) ys) → xs ≡ ys
  same [] [] p q h = refl
  same [] (y ∷ ys) p q h = absurd (not_none (eqb (number y) (number y)) y (filter (is_of (number y)) ys) (eq-eqb (number y) (number y) refl) (sym (h y)))
  same (x ∷ xs) [] p q h = absurd (not_none (eqb (number x) (number x)) x (filter (is_of (number x)) xs) (eq-eqb (number x) (number x) refl) (h x))
  same (x ∷ xs) (y ∷ ys) p q h = elim (cases_order (number x) (number y)) [
    | inl e ↦
        let heads = head_same (eqb (number x) (number x)) (eqb (number x) (number y)) x y (filter (is_of (number x)) xs) (filter (is_of (number x)) ys) (eq-eqb (number x) (number x) refl) (eq-eqb (number x) (number y) e) (h x) in
        let tails = same xs ys p.1 q.1 (λ z. tail_same (eqb (number z) (number y)) x y (filter (is_of (number z)) xs) (filter (is_of (number z)) ys) (rw e at (h z))) in
        cc
    | inr (inl l) ↦ absurd (not_none (eqb (number x) (number x)) x (filter (is_of (number x)) xs) (eq-eqb (number x) (number x) refl)
        (h x ∙ none_of (number x) (number y) (y ∷ ys) l (omega arith, q.0)))
    | inr (inr g) ↦ absurd (not_none (eqb (number y) (number y)) y (filter (is_of (number y)) ys) (eq-eqb (number y) (number y) refl)
        (sym (h y) ∙ none_of (number y) (number x) (x ∷ xs) g (omega arith, p.0)))
  ]

  From-placed : (n : ℕ) (x : X) (ys : List X) → n ≤ number x → From n ys → From n (placed number x ys)
  From-placed n x [] le f = (le, tt)
  From-placed n x (y ∷ ys) le f =
      cond_both (leb (number x) (number y)) (x ∷ y ∷ ys) (y ∷ placed number x ys) (From n) (λ _. (le, f)) (λ _. (f.0, From-placed n x ys le f.1))

  Ascends-placed : (x : X) (ys : List X) → Ascends ys → Ascends (placed number x ys)
  Ascends-placed x [] a = (tt, tt)
  Ascends-placed x (y ∷ ys) a =
      cond_both (leb (number x) (number y)) (x ∷ y ∷ ys) (y ∷ placed number x ys) Ascends
      (λ t. let le = leb-true (number x) (number y) t in ((le, From-below (number x) (number y) ys le a.0), a))
      (λ t. let lt = leb-false (number x) (number y) t in (From-placed (number y) x ys (omega arith) a.0, Ascends-placed x ys a.1))

  pub Ascends-ascending : (xs : List X) → Ascends (ascending number xs)
  Ascends-ascending [] = tt
  Ascends-ascending (x ∷ xs) = Ascends-placed x (ascending number xs) (Ascends-ascending xs)

  -- a lower element stands ahead of one more
  behind : (n : ℕ) (x y : X) (put ys : List X) → number y < number x
      → filter (is_of n) put ≡ cond (eqb n (number x)) (x ∷ filter (is_of n) ys) (filter (is_of n) ys)
      → filter (is_of n) (y ∷ put) ≡ cond (eqb n (number x)) (x ∷ filter (is_of n) (y ∷ ys)) (filter (is_of n) (y ∷ ys))
  behind n x y put ys lt e = elim (eqb_tells n (number x)) [
    | inl t ↦ rw (e, t.0, ne_eqb n (number y) (λ f. omega (arith, t.1))) refl
    | inr t ↦ rw (e, t.0) refl
  ]

  filter_placed : (n : ℕ) (x : X) (ys : List X)
      → filter (is_of n) (placed number x ys) ≡ cond (eqb n (number x)) (x ∷ filter (is_of n) ys) (filter (is_of n) ys)
  filter_placed n x [] = refl
  filter_placed n x (y ∷ ys) =
      cond_both (leb (number x) (number y)) (x ∷ y ∷ ys) (y ∷ placed number x ys)
      (λ zs. filter (is_of n) zs ≡ cond (eqb n (number x)) (x ∷ filter (is_of n) (y ∷ ys)) (filter (is_of n) (y ∷ ys)))
      (λ _. refl)
      (λ t. behind n x y (placed number x ys) ys (leb-false (number x) (number y) t) (filter_placed n x ys))

  pub filter_ascending : (n : ℕ) (xs : List X) → filter (is_of n) (ascending number xs) ≡ filter (is_of n) xs
  filter_ascending n [] = refl
  filter_ascending n (x ∷ xs) =
      filter_placed n x (ascending number xs)
      ∙ ap (λ (f : List X). cond (eqb n (number x)) (x ∷ f) f) (filter_ascending n xs)

  ascends : (ys : List X) → IsNonDecreasingBy number ys → Ascends ys
  ascends [] h = tt
  ascends (y ∷ ys) h = (
    recursion_from_All (λ x. number y ≤ number x) ys (λ k d lt. h 0 (suc k) d (omega arith) (omega arith)),
    ascends ys (λ i j d le lt. h (suc i) (suc j) d (omega arith) (omega arith)),
  )

  -- what is sorted, and stable, is put in order
  pub put_in_order : (xs ys : List X) → IsSortedByKey number nat_cmp ys → IsStableByKey number nat_cmp xs ys → ys ≡ ascending number xs
  put_in_order xs ys sorted stable =
      same ys (ascending number xs) (ascends ys (IsNonDecreasingBy-from_sort number ys sorted)) (Ascends-ascending xs)
      (λ z. sym (filter_agree _ (is_of (number z)) (λ w. tie (number z) (number w)) ys) ∙ stable z
      ∙ filter_agree _ (is_of (number z)) (λ w. tie (number z) (number w)) xs
      ∙ sym (filter_ascending (number z) xs))
