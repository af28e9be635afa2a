-- The lowest and the highest of values, in another order.
use Rattle.std.proofs.Common.{◌≡◌, ℤ, List, [], ◌∷◌, fold, refl, ap, ◌∙◌, arith}
use Rattle.std.specs.Prelude.{Option, Some, None}
use Rattle.std.specs.Int.{int_max, int_min}
use Rattle.std.proofs.lemmas.Int.{clamps, ints}
use Rattle.gs_counts.specs.declared.span.Span.{Span}
use Rattle.gs_counts.specs.Meshes.{widened}

min_turned : (x y : ℤ) → int_min x y ≡ int_min y x
min_turned x y = omega (arith, ints, clamps)

max_turned : (x y : ℤ) → int_max x y ≡ int_max y x
max_turned x y = omega (arith, ints, clamps)

mins_turned : (l x y : ℤ) → int_min (int_min l x) y ≡ int_min (int_min l y) x
mins_turned l x y = omega (arith, ints, clamps)

maxs_turned : (l x y : ℤ) → int_max (int_max l x) y ≡ int_max (int_max l y) x
maxs_turned l x y = omega (arith, ints, clamps)

widened_twice : (o : Option Span) (x y : ℤ) → widened (widened o x) y ≡ widened (widened o y) x
widened_twice None x y = λ i. Some (record { lowest = min_turned x y i; highest = max_turned x y i })
widened_twice (Some s) x y = λ i. Some (record { lowest = mins_turned s.lowest x y i; highest = maxs_turned s.highest x y i })

first_or_last : (o : Option Span) (z : ℤ) (zs : List ℤ) → widened (fold widened o zs) z ≡ fold widened (widened o z) zs
first_or_last o z [] = refl
first_or_last o z (y ∷ zs) =
    first_or_last (widened o y) z zs ∙ ap (λ (s : Option Span). fold widened s zs) (widened_twice o y z)

-- two lists of values, in either order
pub fold_turned : (o : Option Span) (xs ys : List ℤ) → fold widened (fold widened o xs) ys ≡ fold widened (fold widened o ys) xs
fold_turned o xs [] = refl
fold_turned o xs (y ∷ ys) =
    ap (λ (s : Option Span). fold widened s ys) (first_or_last o y xs) ∙ fold_turned (widened o y) xs ys
