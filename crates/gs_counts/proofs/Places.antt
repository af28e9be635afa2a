-- A table by numbers, where one of its rows changes.
use Rattle.std.proofs.Common.{◌≡◌, ℕ, zero, suc, ◌+◌, ◌<◌, true, false, nat_eq, List, ◌∷◌, map, refl, sym, ap₂, ◌∙◌, arith}
use Rattle.std.specs.Prelude.{Option, None, Some, slice_get, slice_set}
use Rattle.std.specs.List.{range_with_len}
use Rattle.std.proofs.lemmas.Bool.Decides.{nat_tests}
use Rattle.gs_counts.specs.Rows.{changed_at}

apart : (j r : ℕ) → j < r → nat_eq j r ≡ false
apart j r below = grind (arith, nat_tests)

above : (j r : ℕ) → r < j → nat_eq j r ≡ false
above j r below = grind (arith, nat_tests)

same : (j r : ℕ) → r ≡ j → nat_eq j r ≡ true
same j r is = grind (arith, nat_tests)

-- the row at a place of rows that come after another
later : {R : Type 0} (change : R → R) (row : R) (rows : List R) (k : ℕ) → changed_at change (row ∷ rows) (suc k) ≡ row ∷ changed_at change rows k
later {R} change row rows k = by (slice_get rows k)
  where
    by : (o : Option R) → elim o [ None ↦ row ∷ rows | Some x ↦ slice_set (row ∷ rows) (suc k) (change x) ] ≡ row ∷ elim o [ None ↦ rows | Some x ↦ slice_set rows k (change x) ]
    by None = refl
    by (Some found) = refl

-- Rows by numbers, before and after: where the row of a number changes, and the others stay.
module _ {R : Type 0} (change : R → R) (before after : ℕ → R) (j : ℕ) (here : (n : ℕ) → nat_eq j n ≡ true → after n ≡ change (before n)) (others : (n : ℕ) → nat_eq j n ≡ false → after n ≡ before n) where
  untouched : (a n : ℕ) → j < a → map before (range_with_len a n) ≡ map after (range_with_len a n)
  untouched a zero below = refl
  untouched a (suc n) below =
      ap₂ (λ (row : R) (rows : List R). row ∷ rows) (sym (others a (apart j a below))) (untouched (a + 1) n (omega (arith, below)))

  changed_from : (a n k : ℕ) → a + k ≡ j → changed_at change (map before (range_with_len a n)) k ≡ map after (range_with_len a n)
  changed_from a zero zero is = refl
  changed_from a zero (suc k) is = refl
  changed_from a (suc n) zero is =
      ap₂ (λ (row : R) (rows : List R). row ∷ rows) (sym (here a (same j a (omega (arith, is))))) (untouched (a + 1) n (omega (arith, is)))
  changed_from a (suc n) (suc k) is =
      later change (before a) (map before (range_with_len (a + 1) n)) k
      ∙ ap₂ (λ (row : R) (rows : List R). row ∷ rows) (sym (others a (above j a (omega (arith, is))))) (changed_from (a + 1) n k (omega (arith, is)))

  pub changed : (n : ℕ) → changed_at change (map before (range_with_len 0 n)) j ≡ map after (range_with_len 0 n)
  changed n = changed_from 0 n j (omega arith)
