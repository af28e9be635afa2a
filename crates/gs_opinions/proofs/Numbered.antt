-- Rows by number, and what stands in them.
use Rattle.std.proofs.Common.{◌≡◌, ◌<◌, ◌≤◌, ℕ, zero, suc, ◌+◌, List, [], ◌∷◌, ◌++◌, flat_map, map, refl, sym, ap, ap₂, ◌∙◌, append-nil, append_assoc, arith, add-one, zero-add}
use Rattle.std.specs.Prelude.{None, Some, slice_get}
use Rattle.std.specs.List.{range_with_len}
use Rattle.std.proofs.lemmas.List.FromFn.{map-range_with_len_more}
use Rattle.gs_base.specs.declared.names.PeerNo.{PeerNo}
use Rattle.gs_seats.specs.Rounds.{peer_no}
use Rattle.gs_opinions.specs.Cells.{by_number}

-- ---- one row more

pub numbered_more : {A : Type 0} (f : ℕ → A) (n : ℕ) (old new : List A) (x : A) → old ≡ by_number f n → x ≡ f n → new ≡ old ++ x ∷ [] → new ≡ by_number f (n + 1)
numbered_more f n old new x had is more =
    more ∙ ap₂ (λ xs y. xs ++ y ∷ []) had is ∙ sym (map-range_with_len_more f 0 n n (zero-add n))

flat_from : {B : Type 0} (f : ℕ → List B) (a n j : ℕ) → a + n ≡ j → flat_map f (range_with_len a (suc n)) ≡ flat_map f (range_with_len a n) ++ f j
flat_from f a zero j is = append-nil (f a) ∙ ap f (omega (arith, is))
flat_from f a (suc n) j is =
    ap (λ ys. f a ++ ys) (flat_from f (a + 1) n j (omega (arith, is)))
    ∙ sym (append_assoc (f a) (flat_map f (range_with_len (a + 1) n)) (f j))

pub flat_numbered : {B : Type 0} (f : ℕ → List B) (n : ℕ) → flat_map f (range_with_len 0 (n + 1)) ≡ flat_map f (range_with_len 0 n) ++ f n
flat_numbered f n = ap (λ k. flat_map f (range_with_len 0 k)) (add-one n) ∙ flat_from f 0 n n (zero-add n)

-- ---- the row of a number

got_from : {A : Type 0} (f : ℕ → A) (a n k j : ℕ) → a + k ≡ j → k < n → slice_get (map f (range_with_len a n)) k ≡ Some (f j)
got_from f a zero k j is low = absurd (omega (arith, low))
got_from f a (suc n) zero j is low = ap (λ i. Some (f i)) (omega (arith, is))
got_from f a (suc n) (suc k) j is low = got_from f (a + 1) n k j (omega (arith, is)) (omega (arith, low))

pub got : {A : Type 0} (f : ℕ → A) (count k : ℕ) → k < count → slice_get (by_number f count) k ≡ Some (f k)
got f count k low = got_from f 0 count k k (zero-add k) low

-- of a number with no row it is what it would be
or_got_from : {A : Type 0} (f : ℕ → A) (a n k j : ℕ) → a + k ≡ j → elim (slice_get (map f (range_with_len a n)) k) [ None ↦ f j | Some x ↦ x ] ≡ f j
or_got_from f a zero zero j is = refl
or_got_from f a zero (suc k) j is = refl
or_got_from f a (suc n) zero j is = ap f (omega (arith, is))
or_got_from f a (suc n) (suc k) j is = or_got_from f (a + 1) n k j (omega (arith, is))

pub or_got : {A : Type 0} (f : ℕ → A) (count k : ℕ) → elim (slice_get (by_number f count) k) [ None ↦ f k | Some x ↦ x ] ≡ f k
or_got f count k = or_got_from f 0 count k k (zero-add k)

-- ---- all rows

flat_same_from : {B : Type 0} (f : ℕ → List B) (g : PeerNo → List B) (count : ℕ) → ((k : ℕ) → k < count → f k ≡ g (peer_no k)) → (a n : ℕ) → a + n ≤ count → flat_map f (range_with_len a n) ≡ flat_map g (map peer_no (range_with_len a n))
flat_same_from f g count same a zero low = refl
flat_same_from f g count same a (suc n) low =
    ap₂ (λ xs ys. xs ++ ys) (same a (omega (arith, low))) (flat_same_from f g count same (a + 1) n (omega (arith, low)))

pub flat_same : {B : Type 0} (f : ℕ → List B) (g : PeerNo → List B) (count : ℕ) → ((k : ℕ) → k < count → f k ≡ g (peer_no k)) → flat_map f (range_with_len 0 count) ≡ flat_map g (map peer_no (range_with_len 0 count))
flat_same f g count same = flat_same_from f g count same 0 count (omega arith)

all_same_from : {A : Type 0} (f g : ℕ → A) (count : ℕ) → ((k : ℕ) → k < count → f k ≡ g k) → (a n : ℕ) → a + n ≤ count → map f (range_with_len a n) ≡ map g (range_with_len a n)
all_same_from f g count same a zero low = refl
all_same_from f g count same a (suc n) low =
    ap₂ (λ x xs. x ∷ xs) (same a (omega (arith, low))) (all_same_from f g count same (a + 1) n (omega (arith, low)))

pub all_same : {A : Type 0} (f g : ℕ → A) (count : ℕ) → ((k : ℕ) → k < count → f k ≡ g k) → by_number f count ≡ by_number g count
all_same f g count same = all_same_from f g count same 0 count (omega arith)
