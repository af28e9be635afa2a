-- Products of whole millionths, rounded down.
use Rattle.std.specs.Prelude.{ℕ, ◌*◌, ◌/◌, ℤ, pos, ◌*ℤ◌}
use Rattle.std.specs.Int.{int_div_euclid}

-- the product of a weight and an amount, rounded towards minus infinity
unfoldable pub times : ℤ → ℤ → ℤ
times a b = int_div_euclid (a *ℤ b) (pos 1_000_000)

-- the product of amounts that are not negative
abbrev pub scaled : ℕ → ℕ → ℕ
scaled a b = a * b / 1_000_000

abbrev pub squared : ℕ → ℕ
squared a = scaled a a
