-- A stretch of a body.
use Rattle.std.specs.Prelude.{◌≡◌, ℕ, ◌+◌, ◌<◌, ◌≤◌, ◌^◌, List, length, take, drop}

-- the bytes stand in the body from this place on
pub record IsPlaced (body : List ℕ) (start : ℕ) (bytes : List ℕ) : Type 0 where
  pub small : length body < 2 ^ 63
  pub within : start + length bytes ≤ length body
  pub same : bytes ≡ take (length bytes) (drop start body)
