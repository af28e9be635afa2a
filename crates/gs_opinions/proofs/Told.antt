-- What the lowest of a list is told as.
use Rattle.std.proofs.Common.{◌≡◌, ◌≤ℤ◌, ◌<ℤ◌, ℤ, true, false, List, [], ◌∷◌, ◌++◌, Option, None, Some, ap, subst, arith}
use Rattle.std.specs.Prelude.{int_lt, option_map, unwrap_or}
use Rattle.std.specs.List.{AllByRecursion}
use Rattle.std.proofs.lemmas.Int.{ints}
use Rattle.gs_opinions.specs.declared.opinion.Lowest.{Lowest}
use Rattle.gs_opinions.specs.declared.opinion.Opinion.{Opinion}
use Rattle.gs_opinions.specs.Lowest.{lowest}
use Rattle.gs_opinions.specs.Runs.{lowest_in, score_in}
use Rattle.gs_opinions.proofs.Least.{Found, found_lowest, not_below_found, weaker}

not_over : (a b : ℤ) → int_lt b a ≡ false → a ≤ℤ b
not_over a b p = grind (arith, ints)

under : (a b : ℤ) → int_lt a b ≡ true → a <ℤ b
under a b p = grind (arith, ints)

module _ (os : List Opinion) (x : Lowest) where
  told_as : (o : Opinion) → Some (lowest_in o) ≡ Some x → lowest_in o ≡ x
  told_as o is = ap (λ (found : Option Lowest). unwrap_or found (lowest_in o)) is

  scored : (o : Opinion) → Some (lowest_in o) ≡ Some x → o.score ≡ x.score
  scored o is = ap (λ (y : Lowest). y.score) (told_as o is)

  pub least : option_map lowest_in (lowest score_in os) ≡ Some x → AllByRecursion (λ (o : Opinion). x.score ≤ℤ o.score) os
  least = by (lowest score_in os) (found_lowest score_in os)
    where
      by : (found : Option Opinion) → Found score_in os found → option_map lowest_in found ≡ Some x → AllByRecursion (λ (o : Opinion). x.score ≤ℤ o.score) os
      by None h is = absurd cc
      by (Some y) h is =
          weaker (λ (o : Opinion). int_lt o.score y.score ≡ false) (λ (o : Opinion). x.score ≤ℤ o.score) (λ o p. subst (λ (z : ℤ). z ≤ℤ o.score) (scored y is) (not_over y.score o.score p)) os (not_below_found score_in os y h)

  -- it stands after opinions that are higher
  abbrev pub IsFirst : Type 0
  IsFirst =
      (before : List Opinion) × (o : Opinion) × (after : List Opinion)
      × (os ≡ before ++ o ∷ after) × (lowest_in o ≡ x) × AllByRecursion (λ (earlier : Opinion). x.score <ℤ earlier.score) before

  pub first : option_map lowest_in (lowest score_in os) ≡ Some x → IsFirst
  first = by (lowest score_in os) (found_lowest score_in os)
    where
      by : (found : Option Opinion) → Found score_in os found → option_map lowest_in found ≡ Some x → IsFirst
      by None h is = absurd cc
      by (Some y) h is = (
        h.front,
        y,
        h.back,
        h.is,
        told_as y is,
        weaker (λ (o : Opinion). int_lt y.score o.score ≡ true) (λ (o : Opinion). x.score <ℤ o.score) (λ o p. subst (λ (z : ℤ). z <ℤ o.score) (scored y is) (under y.score o.score p)) h.front h.above,
      )

pub only_of_nothing : (os : List Opinion) → option_map lowest_in (lowest score_in os) ≡ None → os ≡ []
only_of_nothing os = by (lowest score_in os) (found_lowest score_in os)
  where
    by : (found : Option Opinion) → Found score_in os found → option_map lowest_in found ≡ None → os ≡ []
    by None h is = h
    by (Some y) h is = absurd cc
