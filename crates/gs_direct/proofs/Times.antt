-- Moments of rounds.
use Rattle.std.proofs.Common.{◌≤◌, ◌*◌, ℕ, zero, suc, pred, arith}
use Rattle.std.proofs.Math.Nat.{suc-mul}

-- a round is no earlier than the one before it
pub earlier_round : (r every : ℕ) → pred r * every ≤ r * every
earlier_round zero every = omega arith
earlier_round (suc r) every = let product = suc-mul r every in omega (arith, product)

pub last_round : (r every : ℕ) → pred (suc r) * every ≤ r * every
last_round r every = omega arith
