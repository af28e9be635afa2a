-- How large sums and products of millionths are.
use Rattle.std.proofs.Common.{◌≡◌, ℕ, ◌+◌, ◌*◌, ◌≤◌, ◌<◌, ◌^◌, ℤ, pos, negsuc, ◌+ℤ◌, ◌*ℤ◌, unsigned_abs, FitsSigned, mul-le-mul, refl, arith}
use Rattle.std.proofs.lemmas.Int.{ints, to_z-of_z, unsigned_abs-mul, fits_signed_from_abs}
use Rattle.std.specs.Int.{int_div_euclid, w64, w128}
use mir.Val.{to_z, of_z}
use Rattle.gs_params.specs.Params.{IsReward, IsPenalty}
use Rattle.gs_score.specs.Millionths.{times, scaled}

-- what code of 128 bits makes of a number
abbrev pub coded : ℤ → ℤ
coded z = to_z w128 (of_z w128 z)

pub fits : (z : ℤ) (m : ℕ) → unsigned_abs z ≤ m → m < 2 ^ 127 → FitsSigned w128 z
fits z m small less = fits_signed_from_abs w128 z (omega arith)

pub back : (z : ℤ) (m : ℕ) → unsigned_abs z ≤ m → m < 2 ^ 127 → coded z ≡ z
back z m small less = let f : FitsSigned w128 z = fits z m small less in to_z-of_z w128 z f

-- a product of amounts is the same in either reading
pub product_of_amounts : (a b : ℕ) → times (pos a) (pos b) ≡ pos (scaled a b)
unfolding times
product_of_amounts a b = refl

abs_div : (z : ℤ) (k : ℕ) → unsigned_abs z ≤ k * 1_000_000 → unsigned_abs (int_div_euclid z (pos 1_000_000)) ≤ k
abs_div (pos x) k h = omega arith
abs_div (negsuc x) k h = omega arith

pub times_within : (a b : ℤ) (m n k : ℕ) → unsigned_abs a ≤ m → unsigned_abs b ≤ n → m * n ≡ k * 1_000_000 → unsigned_abs (times a b) ≤ k
unfolding times
times_within a b m n k p q e = abs_div (a *ℤ b) k (omega (arith, e, unsigned_abs-mul a b, mul-le-mul p q))

abs_add : (a b : ℤ) → unsigned_abs (a +ℤ b) ≤ unsigned_abs a + unsigned_abs b
abs_add a b = omega (arith, ints)

pub abs_back : (z : ℤ) (m : ℕ) → unsigned_abs z ≤ m → m < 2 ^ 127 → unsigned_abs (coded z) ≤ m
abs_back z m small less = rw (back z m small less) small

-- a sum of five is within five times the bound, and so is each sum on the way
pub sum_back : (a b c d e : ℤ) (m : ℕ)
    → unsigned_abs a ≤ m → unsigned_abs b ≤ m → unsigned_abs c ≤ m → unsigned_abs d ≤ m → unsigned_abs e ≤ m
    → 5 * m < 2 ^ 127
    → (coded (coded (coded (coded a +ℤ coded b) +ℤ coded c) +ℤ coded d) +ℤ coded e ≡ a +ℤ b +ℤ c +ℤ d +ℤ e)
    × (unsigned_abs (a +ℤ b +ℤ c +ℤ d +ℤ e) ≤ 5 * m)
sum_back a b c d e m p q r s t f =
    let two : unsigned_abs (a +ℤ b) ≤ 2 * m = omega (arith, abs_add a b) in
    let three : unsigned_abs (a +ℤ b +ℤ c) ≤ 3 * m = omega (arith, abs_add (a +ℤ b) c) in
    let four : unsigned_abs (a +ℤ b +ℤ c +ℤ d) ≤ 4 * m = omega (arith, abs_add (a +ℤ b +ℤ c) d) in
    let five : unsigned_abs (a +ℤ b +ℤ c +ℤ d +ℤ e) ≤ 5 * m = omega (arith, abs_add (a +ℤ b +ℤ c +ℤ d) e) in
    let lt : m < 2 ^ 127 = omega arith in (
      rw (back a m p lt, back b m q lt, back c m r lt, back d m s lt, back e m t lt, back (a +ℤ b) (2 * m) two (omega arith), back (a +ℤ b +ℤ c) (3 * m) three (omega arith), back (a +ℤ b +ℤ c +ℤ d) (4 * m) four (omega arith)) refl,
      five,
    )

pub sum_of_four_back : (a b c d : ℤ) (m : ℕ)
    → unsigned_abs a ≤ m → unsigned_abs b ≤ m → unsigned_abs c ≤ m → unsigned_abs d ≤ m
    → 4 * m < 2 ^ 127
    → (coded (coded (coded a +ℤ coded b) +ℤ coded c) +ℤ coded d ≡ a +ℤ b +ℤ c +ℤ d)
    × (unsigned_abs (a +ℤ b +ℤ c +ℤ d) ≤ 4 * m)
sum_of_four_back a b c d m p q r s f =
    let two : unsigned_abs (a +ℤ b) ≤ 2 * m = omega (arith, abs_add a b) in
    let three : unsigned_abs (a +ℤ b +ℤ c) ≤ 3 * m = omega (arith, abs_add (a +ℤ b) c) in
    let four : unsigned_abs (a +ℤ b +ℤ c +ℤ d) ≤ 4 * m = omega (arith, abs_add (a +ℤ b +ℤ c) d) in
    let lt : m < 2 ^ 127 = omega arith in (
      rw (back a m p lt, back b m q lt, back c m r lt, back d m s lt, back (a +ℤ b) (2 * m) two (omega arith), back (a +ℤ b +ℤ c) (3 * m) three (omega arith)) refl,
      four,
    )

-- a weight is what code of 64 bits makes of it
pub reward_back : (z : ℤ) → IsReward z → to_z w64 (of_z w64 z) ≡ z
reward_back z h = let f : FitsSigned w64 z = fits_signed_from_abs w64 z (omega (arith, ints, h.0, h.1)) in to_z-of_z w64 z f

pub penalty_back : (z : ℤ) → IsPenalty z → to_z w64 (of_z w64 z) ≡ z
penalty_back z h = let f : FitsSigned w64 z = fits_signed_from_abs w64 z (omega (arith, ints, h.0, h.1)) in to_z-of_z w64 z f
