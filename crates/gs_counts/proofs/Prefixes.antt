-- How many bytes stand before a body in a frame.
use Rattle.std.proofs.Common.{◌≡◌, ℕ, ◌<◌, ◌≤◌, ◌/◌, length, refl, arith}
use Rattle.std.proofs.lemmas.Bool.{lt-ltb, le-ltb}
use Rattle.gs_wire.specs.Varint.{varint, varint_within}

pub one_byte : (n : ℕ) → n < 128 → 1 ≡ length (varint n)
unfolding varint_within
one_byte n low = rw (lt-ltb n 128 low) refl

pub two_bytes : (n : ℕ) → 128 ≤ n → n < 16384 → 2 ≡ length (varint n)
unfolding varint_within
two_bytes n high low = rw (le-ltb n 128 high, lt-ltb (n / 128) 128 (omega (arith, low))) refl

pub three_bytes : (n : ℕ) → 16384 ≤ n → n < 2097152 → 3 ≡ length (varint n)
unfolding varint_within
three_bytes n high low =
    rw (le-ltb n 128 (omega (arith, high)), le-ltb (n / 128) 128 (omega (arith, high)), lt-ltb (n / 128 / 128) 128 (omega (arith, low))) refl
