-- Which rounds have ended in what is said so far.
use Rattle.std.specs.Prelude.{ℕ, zero, suc, Bool, true, false, nat_eq, ◌&&◌, if◌then◌else◌, [], ◌∷◌}
use Rattle.gs_base.specs.Tokens.{Byte, EndOf, Close, Said}
use Rattle.gs_rules.specs.Hearing.{after, closes, said_in}

-- the end of round r stands in it, or a close
abbrev pub ends : ℕ → Said → Bool
ends r [] = false
ends r (Byte b ∷ w) = ends r w
ends r (EndOf k ∷ w) = if nat_eq k r then true else ends r w
ends r (Close ∷ w) = true

-- the first r rounds have ended in it
abbrev pub whole : ℕ → Said → Bool
whole zero w = true
whole (suc r) w = whole r w && ends r (after r w)

-- a close stands in what is heard in a round
abbrev pub closes_in : ℕ → Said → Bool
closes_in zero w = false
closes_in (suc r) w = closes (said_in r w)

-- a close where `closed` is true, and else nothing
abbrev pub close_if : Bool → Said
close_if closed = if closed then Close ∷ [] else []
