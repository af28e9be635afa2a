-- Of distinct elements in some order, those that fewer than n others beat are n, or all where there are fewer.
use Rattle.std.proofs.Common.{◌≡◌, ℕ, zero, suc, ◌+◌, ◌-◌, ◌<◌, ◌≤◌, nat_lt, Bool, true, false, cond, List, [], ◌∷◌, length, get_or, min, filter, refl, ap, subst, ◌∙◌, ◌⊎◌, inl, inr, arith}
use Rattle.std.specs.Prelude.{Contains}
use Rattle.std.specs.List.{AllByRecursion, IsDistinct}
use Rattle.std.proofs.lemmas.Bool.Decides.{nat_tests}
use Rattle.std.proofs.lemmas.List.Elements.{recursion_from_All, Contains-get_or}
use Rattle.std.proofs.lemmas.Map.Keys.{IsDistinct-head, IsDistinct-tail}
use Rattle.std.proofs.lemmas.List.Sums.{length-filter, count_by-le-length}

-- ---- elements

-- what holds of each element holds by recursion
pub each_element : {X : Type 0} (P : X → Type 0) (xs : List X) → ((x : X) → Contains xs x → P x) → AllByRecursion P xs
each_element P xs f = recursion_from_All P xs (λ k d within. f (get_or xs k d) (Contains-get_or xs k d within))

at_place : {X : Type 0} (x : X) (xs : List X) (y : X) (k : ℕ) → k < length (x ∷ xs) → get_or (x ∷ xs) k y ≡ y → (x ≡ y) ⊎ Contains xs y
at_place x xs y zero within e = inl e
at_place x xs y (suc k) within e = inr (k, omega arith, e)

pub first_or_later : {X : Type 0} (x : X) (xs : List X) (y : X) → Contains (x ∷ xs) y → (x ≡ y) ⊎ Contains xs y
first_or_later x xs y h = at_place x xs y h.0 h.1 h.2

-- what holds of each element by recursion holds of one
pub of_element : {X : Type 0} (P : X → Type 0) (xs : List X) (y : X) → AllByRecursion P xs → Contains xs y → P y
of_element P [] y all (k, within, e) = absurd (omega arith)
of_element P (x ∷ xs) y all h = elim (first_or_later x xs y h) [
  | inl e ↦ subst P e all.0
  | inr later ↦ of_element P xs y all.1 later
]

-- ---- lengths

-- two tests that agree at each element keep the same elements
pub filter_alike : {X : Type 0} (p q : X → Bool) (xs : List X) → AllByRecursion (λ x. p x ≡ q x) xs → filter p xs ≡ filter q xs
filter_alike p q [] h = refl
filter_alike p q (x ∷ xs) h = rw (h.0, filter_alike p q xs h.1) refl

pub length_if : {X : Type 0} (b : Bool) (x : X) (xs : List X) → length (cond b (x ∷ xs) xs) ≡ cond b 1 0 + length xs
length_if true x xs = omega arith
length_if false x xs = omega arith

one_at_most : (a b : Bool) (m n : ℕ) → (a ≡ true → b ≡ true) → m ≤ n → cond a 1 0 + m ≤ cond b 1 0 + n
one_at_most true true m n h le = omega arith
one_at_most true false m n h le = let e : false ≡ true = h refl in cc
one_at_most false true m n h le = omega arith
one_at_most false false m n h le = omega arith

pub more_pass : {X : Type 0} (p q : X → Bool) → ((x : X) → p x ≡ true → q x ≡ true) → (xs : List X) → length (filter p xs) ≤ length (filter q xs)
more_pass p q f [] = omega arith
more_pass p q f (x ∷ xs) = rw (length_if (p x) x (filter p xs), length_if (q x) x (filter q xs)) (one_at_most (p x) (q x) _ _ (f x) (more_pass p q f xs))

one_below : (a b : Bool) (m n : ℕ) → (a ≡ true → b ≡ true) → m < n → cond a 1 0 + m < cond b 1 0 + n
one_below true true m n h le = omega arith
one_below true false m n h le = let e : false ≡ true = h refl in cc
one_below false true m n h le = omega arith
one_below false false m n h le = omega arith

one_more : (a b : Bool) (m n : ℕ) → a ≡ false → b ≡ true → m ≤ n → cond a 1 0 + m < cond b 1 0 + n
one_more a b m n refuses passes le = rw (refuses, passes) (omega arith)

-- and one more does, where some element passes only the second test
pub one_more_passes : {X : Type 0} (p q : X → Bool) → ((x : X) → p x ≡ true → q x ≡ true) → (y : X) → p y ≡ false → q y ≡ true → (xs : List X) → Contains xs y → length (filter p xs) < length (filter q xs)
one_more_passes p q f y refuses passes [] (k, within, e) = absurd (omega arith)
one_more_passes p q f y refuses passes (x ∷ xs) h = rw (length_if (p x) x (filter p xs), length_if (q x) x (filter q xs)) (elim (first_or_later x xs y h) [
  | inl e ↦ one_more (p x) (q x) _ _ (ap p e ∙ refuses) (ap q e ∙ passes) (more_pass p q f xs)
  | inr later ↦ one_below (p x) (q x) _ _ (f x) (one_more_passes p q f y refuses passes xs later)
])

-- ---- ranks

module _ {X : Type 0} (beats same : X → X → Bool) (never : (x : X) → beats x x ≡ false) (further : (x y z : X) → beats x y ≡ true → beats y z ≡ true → beats x z ≡ true) (either : (x y : X) → same x y ≡ false → beats x y ≡ false → beats y x ≡ true) where
  -- how many beat it
  abbrev rank : List X → X → ℕ
  rank xs y = length (filter (λ x. beats x y) xs)

  pub rank_rises : (xs : List X) (x y : X) → beats x y ≡ true → rank xs x ≤ rank xs y
  rank_rises xs x y h = more_pass (λ z. beats z x) (λ z. beats z y) (λ z k. further z x y k h) xs

  pub rank_rises_more : (xs : List X) (x y : X) → beats x y ≡ true → Contains xs x → rank xs x < rank xs y
  rank_rises_more xs x y h in_xs = one_more_passes (λ z. beats z x) (λ z. beats z y) (λ z k. further z x y k h) x (never x) h xs in_xs

  -- with one more in front that fewer than n beat, one less is left for the others
  one_place_less : (x : X) (xs : List X) (n : ℕ) (y : X) → rank xs x < n → same x y ≡ false → Contains xs y → (b : Bool) → beats x y ≡ b → nat_lt (rank (x ∷ xs) y) n ≡ nat_lt (rank xs y) (n - 1)
  one_place_less x xs n y few apart in_xs true e = rw (length_if (beats x y) x (filter (λ z. beats z y) xs), e) (grind (arith, nat_tests))
  one_place_less x xs n y few apart in_xs false e = let less = rank_rises_more xs y x (either x y apart e) in_xs in rw (length_if (beats x y) x (filter (λ z. beats z y) xs), e) (grind (arith, nat_tests))

  -- with one more in front that n or more beat, nothing changes for the others
  same_places : (x : X) (xs : List X) (n : ℕ) (y : X) → n ≤ rank xs x → (b : Bool) → beats x y ≡ b → nat_lt (rank (x ∷ xs) y) n ≡ nat_lt (rank xs y) n
  same_places x xs n y many true e = let more = rank_rises xs x y e in rw (length_if (beats x y) x (filter (λ z. beats z y) xs), e) (grind (arith, nat_tests))
  same_places x xs n y many false e = rw (length_if (beats x y) x (filter (λ z. beats z y) xs), e) (grind (arith, nat_tests))

  own_rank : (x : X) (xs : List X) → rank (x ∷ xs) x ≡ rank xs x
  own_rank x xs = rw (length_if (beats x x) x (filter (λ z. beats z x) xs), never x) (omega arith)

  rank_within : (xs : List X) (x : X) → rank xs x ≤ length xs
  rank_within xs x = omega (arith, count_by-le-length (λ z. beats z x) xs, length-filter (λ z. beats z x) xs)

  -- those that fewer than n beat
  abbrev lowest : ℕ → List X → List X
  lowest n xs = filter (λ y. nat_lt (rank xs y) n) xs

  lowest_of_more : (x : X) (xs : List X) (n : ℕ) → AllByRecursion (λ y. same x y ≡ false) xs → ((m : ℕ) → length (lowest m xs) ≡ min m (length xs)) → (b : Bool) → nat_lt (rank xs x) n ≡ b → length (lowest n (x ∷ xs)) ≡ min n (length (x ∷ xs))
  lowest_of_more x xs n apart count true e =
      let few : rank xs x < n = grind (arith, nat_tests) in
      let rest : filter (λ y. nat_lt (rank (x ∷ xs) y) n) xs ≡ lowest (n - 1) xs = filter_alike _ _ xs (each_element (λ y. nat_lt (rank (x ∷ xs) y) n ≡ nat_lt (rank xs y) (n - 1)) xs (λ y in_xs. one_place_less x xs n y few (of_element (λ z. same x z ≡ false) xs y apart in_xs) in_xs (beats x y) refl)) in
      let h = count (n - 1) in
      rw (own_rank x xs, e, rest) (omega arith)
  lowest_of_more x xs n apart count false e =
      let many : n ≤ rank xs x = grind (arith, nat_tests) in
      let rest : filter (λ y. nat_lt (rank (x ∷ xs) y) n) xs ≡ lowest n xs = filter_alike _ _ xs (each_element (λ y. nat_lt (rank (x ∷ xs) y) n ≡ nat_lt (rank xs y) n) xs (λ y in_xs. same_places x xs n y many (beats x y) refl)) in
      let h = count n in
      let long = rank_within xs x in
      rw (own_rank x xs, e, rest) (omega arith)

  -- there are n of them, or all where there are fewer
  pub length_lowest : (xs : List X) (n : ℕ) → IsDistinct same xs → length (lowest n xs) ≡ min n (length xs)
  length_lowest [] n d = omega arith
  length_lowest (x ∷ xs) n d = lowest_of_more x xs n (IsDistinct-head same x xs d) (λ m. length_lowest xs m (IsDistinct-tail same x xs d)) (nat_lt (rank xs x) n) refl
