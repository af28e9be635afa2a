-- Where others add nothing, a list of peers adds what one of them does.
use Rattle.std.proofs.Common.{◌≡◌, ◌<◌, ℕ, zero, suc, ◌+◌, Bool, true, false, nat_eq, if◌then◌else◌, List, [], ◌∷◌, inl, inr, drop, map, Some, refl, sym, ap, ap₂, ◌∙◌, eq-eqb, arith}
use Rattle.std.specs.Prelude.{slice_get}
use Rattle.std.specs.List.{range_with_len, sum_by, AllByRecursion}
use Rattle.std.proofs.lemmas.Bool.Decides.{nat_tests}
use Rattle.std.proofs.lemmas.List.Sums.{sum_by-cons}
use Rattle.std.proofs.lemmas.Option.{same_Some}
use Rattle.gs_base.specs.declared.names.PeerNo.{PeerNo}
use Rattle.gs_base.specs.Names.{same_peer}
use Rattle.gs_rules.proofs.Handled.{StandsOnce}
use Rattle.gs_reach.specs.Chosen.{is_chosen}
use Rattle.gs_reach.specs.declared.chosen.Chosen.{Chosen}
use Rattle.gs_report.specs.declared.finished.Finished.{Finished}
use Rattle.gs_seats.specs.Rounds.{peer_no}
use Rattle.gs_seats.proofs.Truths.{is_same}
use Rattle.gs_counts.specs.Runs.{chosen_peers}
use Rattle.gs_counts.proofs.Adding.{and_nothing, none_if, nothing_and}

-- ---- a list that has a peer once

none_of : (f : PeerNo → ℕ) (p : PeerNo) (qs : List PeerNo) → ((q : PeerNo) → same_peer q p ≡ false → f q ≡ 0) → AllByRecursion (λ q. same_peer q p ≡ false) qs → sum_by f qs ≡ 0
none_of f p [] none all = refl
none_of f p (q ∷ qs) none all = sum_by-cons f q qs ∙ ap₂ (λ (m n : ℕ). m + n) (none q all.0) (none_of f p qs none all.1)

pub sum_once : (f : PeerNo → ℕ) (p : PeerNo) (qs : List PeerNo) → ((q : PeerNo) → same_peer q p ≡ false → f q ≡ 0) → StandsOnce p qs → sum_by f qs ≡ f p
sum_once f p [] none once = absurd once
sum_once f p (q ∷ qs) none (inl (same, apart)) =
    sum_by-cons f q qs ∙ ap₂ (λ (m n : ℕ). m + n) (ap f same) (none_of f p qs none apart) ∙ and_nothing (f p)
sum_once f p (q ∷ qs) none (inr (apart, once)) =
    sum_by-cons f q qs ∙ ap₂ (λ (m n : ℕ). m + n) (none q apart) (sum_once f p qs none once) ∙ sym (nothing_and (f p))

-- ---- the peers of a plan

abbrev first_of : List PeerNo → PeerNo
first_of [] = peer_no 0
first_of (p ∷ ps) = p

above : (j k : ℕ) → k < j → nat_eq j k ≡ false
above j k more = grind (arith, nat_tests)

below : (j k : ℕ) → j < k → nat_eq j k ≡ false
below j k less = grind (arith, nat_tests)

module _ (f : PeerNo × Finished → ℕ) (g : Finished → ℕ) (p : PeerNo) (only : (x : PeerNo × Finished) → f x ≡ (if same_peer x.0 p then g x.1 else 0)) where
  one : (x : PeerNo × Finished) (b : Bool) → same_peer x.0 p ≡ b → f x ≡ (if b then g x.1 else 0)
  one x b is = only x ∙ ap (λ (c : Bool). if c then g x.1 else 0) is

  none_after : (a n : ℕ) (xs : List (PeerNo × Finished)) → p.0 < a → map (λ x. x.0) xs ≡ map peer_no (range_with_len a n) → sum_by f xs ≡ 0
  none_after a n [] more named = refl
  none_after a zero (x ∷ xs) more named = absurd cc
  none_after a (suc n) (x ∷ xs) more named =
      let other : same_peer x.0 p ≡ false = ap (λ (ps : List PeerNo). same_peer (first_of ps) p) named ∙ above a p.0 more in
      sum_by-cons f x xs
      ∙ ap₂ (λ (j k : ℕ). j + k) (one x false other) (none_after (a + 1) n xs (omega (arith, more)) (ap (drop 1) named))

  -- the one whose number this is
  pub only_one : (a n k : ℕ) (xs : List (PeerNo × Finished)) (life : Finished) → a + k ≡ p.0 → k < n → map (λ x. x.0) xs ≡ map peer_no (range_with_len a n) → slice_get (map (λ x. x.1) xs) k ≡ Some life → sum_by f xs ≡ g life
  only_one a zero k xs life number less named at = absurd (omega (arith, less))
  only_one a (suc n) k [] life number less named at = absurd cc
  only_one a (suc n) zero (x ∷ xs) life number less named at =
      let this : same_peer x.0 p ≡ true = ap (λ (ps : List PeerNo). same_peer (first_of ps) p) named ∙ eq-eqb a p.0 (omega (arith, number)) in
      sum_by-cons f x xs
      ∙ ap₂ (λ (j k : ℕ). j + k) (one x true this ∙ ap g (same_Some x.1 life at)) (none_after (a + 1) n xs (omega (arith, number)) (ap (drop 1) named))
      ∙ and_nothing (g life)
  only_one a (suc n) (suc k) (x ∷ xs) life number less named at =
      let other : same_peer x.0 p ≡ false = ap (λ (ps : List PeerNo). same_peer (first_of ps) p) named ∙ below a p.0 (omega (arith, number)) in
      sum_by-cons f x xs
      ∙ ap₂ (λ (j k : ℕ). j + k) (one x false other) (only_one (a + 1) n k xs life (omega (arith, number)) (omega (arith, less)) (ap (drop 1) named) at)
      ∙ sym (nothing_and (g life))

-- ---- those that are chosen

module _ (f : PeerNo × Finished → ℕ) (of : Chosen) where
  abbrev if_chosen : PeerNo × Finished → ℕ
  if_chosen x = if is_chosen of x.0 then f x else 0

  sum_chosen : (xs : List (PeerNo × Finished)) → sum_by f (chosen_peers of xs) ≡ sum_by if_chosen xs
  sum_chosen [] = refl
  sum_chosen (x ∷ xs) = by (is_chosen of x.0) ∙ ap (λ (n : ℕ). if_chosen x + n) (sum_chosen xs) ∙ sym (sum_by-cons if_chosen x xs)
    where
      by : (b : Bool) → sum_by f (if b then x ∷ chosen_peers of xs else chosen_peers of xs) ≡ (if b then f x else 0) + sum_by f (chosen_peers of xs)
      by true = sum_by-cons f x (chosen_peers of xs)
      by false = nothing_and (sum_by f (chosen_peers of xs))

  module _ (g : Finished → ℕ) (p : PeerNo) (chosen : is_chosen of p ≡ true) (only : (x : PeerNo × Finished) → f x ≡ (if same_peer x.0 p then g x.1 else 0)) where
    only_chosen : (x : PeerNo × Finished) → if_chosen x ≡ (if same_peer x.0 p then g x.1 else 0)
    only_chosen x = by (same_peer x.0 p) refl
      where
        by : (b : Bool) → same_peer x.0 p ≡ b → if_chosen x ≡ (if same_peer x.0 p then g x.1 else 0)
        by true is = ap (λ (c : Bool). if c then f x else 0) (ap (is_chosen of) (is_same x.0 p is) ∙ chosen) ∙ only x
        by false is =
            let none : (if same_peer x.0 p then g x.1 else 0) ≡ 0 = ap (λ (c : Bool). if c then g x.1 else 0) is in
            ap (λ (n : ℕ). if is_chosen of x.0 then n else 0) (only x ∙ none) ∙ sym (none_if (is_chosen of x.0)) ∙ sym none

    pub one_chosen : (n : ℕ) (xs : List (PeerNo × Finished)) (life : Finished) → p.0 < n → map (λ x. x.0) xs ≡ map peer_no (range_with_len 0 n) → slice_get (map (λ x. x.1) xs) p.0 ≡ Some life → sum_by f (chosen_peers of xs) ≡ g life
    one_chosen n xs life less named at =
        sum_chosen xs ∙ only_one if_chosen g p only_chosen 0 n p.0 xs life (omega arith) less named at
