-- Two rows together, place by place.
use Rattle.std.proofs.Common.{◌≡◌, ℕ, suc, ◌+◌, ◌<◌, Bool, true, false, if◌then◌else◌, nat_eq, nat_lt, List, [], ◌∷◌, get_or, length, map, refl, sym, ap, ap₂, ◌∙◌, arith}
use Rattle.std.specs.Prelude.{unwrap_or}
use Rattle.std.specs.List.{range_with_len}
use Rattle.std.proofs.lemmas.Bool.Decides.{nat_tests}
use Rattle.std.proofs.lemmas.Option.{slice_get-get_or}
use Rattle.gs_counts.specs.declared.counts.Counts.{Counts}
use Rattle.gs_counts.specs.Kinds.{all_kinds}
use Rattle.gs_counts.specs.Rows.{counted_at, number_at, plus, with_counts}
use Rattle.gs_counts.proofs.Places.{changed}

-- the number at a place, where those of the first places are summed
abbrev pub number_up_to : List ℕ → List ℕ → ℕ → ℕ → ℕ
number_up_to xs ys n place = if nat_lt place n then plus (number_at xs place) (number_at ys place) else number_at xs place

abbrev pub both_up_to : Counts → Counts → ℕ → Counts
both_up_to counts others n = record { amounts = map (number_up_to counts.amounts others.amounts n) (range_with_len 0 51) }

-- a list is what it has at each place
by_places : (xs : List ℕ) (f : ℕ → ℕ) (a : ℕ) → ((k : ℕ) → f (a + k) ≡ number_at xs k) → xs ≡ map f (range_with_len a (length xs))
by_places [] f a is = refl
by_places (x ∷ xs) f a is =
    ap₂ (λ (y : ℕ) (ys : List ℕ). y ∷ ys) (sym (is 0) ∙ ap f (omega arith)) (by_places xs f (a + 1) (λ k. ap f (omega arith) ∙ is (suc k)))

before_all : (xs ys : List ℕ) (k : ℕ) → number_up_to xs ys 0 (0 + k) ≡ number_at xs k
before_all xs ys k =
    let none : nat_lt (0 + k) 0 ≡ false = grind (arith, nat_tests) in
    ap (λ (b : Bool). if b then plus (number_at xs (0 + k)) (number_at ys (0 + k)) else number_at xs (0 + k)) none
    ∙ ap (number_at xs) (omega arith)

pub none_summed : (counts others : Counts) → length counts.amounts ≡ 51 → counts ≡ both_up_to counts others 0
none_summed counts others many =
    ap (λ (xs : List ℕ). record { amounts = xs })
    (by_places counts.amounts (number_up_to counts.amounts others.amounts 0) 0 (before_all counts.amounts others.amounts)
    ∙ ap (λ (n : ℕ). map (number_up_to counts.amounts others.amounts 0) (range_with_len 0 n)) many)

module _ (xs ys : List ℕ) (place : ℕ) where
  here : (n : ℕ) → nat_eq place n ≡ true → number_up_to xs ys (place + 1) n ≡ plus (number_up_to xs ys place n) (number_at ys place)
  here n is =
      let one : place ≡ n = grind (arith, nat_tests, is) in
      let now : nat_lt n (place + 1) ≡ true = grind (arith, nat_tests, one) in
      let was : nat_lt n place ≡ false = grind (arith, nat_tests, one) in
      ap (λ (b : Bool). if b then plus (number_at xs n) (number_at ys n) else number_at xs n) now
      ∙ ap (λ (k : ℕ). plus (number_at xs n) (number_at ys k)) (sym one)
      ∙ sym (ap (λ (b : Bool). plus (if b then plus (number_at xs n) (number_at ys n) else number_at xs n) (number_at ys place)) was)

  others : (n : ℕ) → nat_eq place n ≡ false → number_up_to xs ys (place + 1) n ≡ number_up_to xs ys place n
  others n is =
      let same : nat_lt n (place + 1) ≡ nat_lt n place = grind (arith, nat_tests, is) in
      ap (λ (b : Bool). if b then plus (number_at xs n) (number_at ys n) else number_at xs n) same

-- one more is summed
pub one_summed : (counts others so_far : Counts) (place : ℕ) → place < length others.amounts → so_far ≡ both_up_to counts others place → counted_at so_far place (get_or others.amounts place 0) ≡ both_up_to counts others (place + 1)
one_summed counts added so_far place low is =
    let more : get_or added.amounts place 0 ≡ number_at added.amounts place = sym (ap (λ o. unwrap_or o 0) (slice_get-get_or added.amounts place 0 low)) in
    ap₂ (λ (c : Counts) (n : ℕ). counted_at c place n) is more
    ∙ ap (λ (ns : List ℕ). record { amounts = ns }) (changed (λ n. plus n (number_at added.amounts place)) (number_up_to counts.amounts added.amounts place) (number_up_to counts.amounts added.amounts (place + 1)) place (here counts.amounts added.amounts place) (others counts.amounts added.amounts place) 51)

pub all_summed : (counts others : Counts) → both_up_to counts others 51 ≡ with_counts counts others
unfolding all_kinds
all_summed counts others = refl
