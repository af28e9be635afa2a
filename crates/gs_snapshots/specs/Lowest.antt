-- The element of a list with the lowest amount.
use Rattle.std.specs.Prelude.{ℤ, int_lt, Bool, not, List, find, Option}
use Rattle.std.specs.List.{list_any}

-- no element of the list has a lower amount
abbrev pub is_lowest : {A : Type 0} → (A → ℤ) → List A → A → Bool
is_lowest amount xs x = not (list_any (λ y. int_lt (amount y) (amount x)) xs)

-- the first element with the lowest amount
abbrev pub lowest : {A : Type 0} → (A → ℤ) → List A → Option A
lowest amount xs = find (is_lowest amount xs) xs
