-- Elements sorted by a number that each has.
use Rattle.std.specs.Prelude.{ℕ, nat_le, if◌then◌else◌, List, [], ◌∷◌}

-- one more element in its place: before the first element whose number is not below its own
abbrev pub placed : {X : Type 0} → (X → ℕ) → X → List X → List X
placed number x [] = x ∷ []
placed number x (y ∷ ys) = if nat_le (number x) (number y) then x ∷ y ∷ ys else y ∷ placed number x ys

-- all of these by their numbers; those with the same number keep their order
abbrev pub ascending : {X : Type 0} → (X → ℕ) → List X → List X
ascending number [] = []
ascending number (x ∷ xs) = placed number x (ascending number xs)
