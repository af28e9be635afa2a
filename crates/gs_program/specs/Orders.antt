-- Options that come in another order.
use Rattle.std.specs.Prelude.{◌≡◌, ◌++◌, ◌∷◌, ℕ, false, List}
use Rattle.gs_program.specs.Options.{Given, has_option, same, value_of}

-- What is looked up by name stays the same where two adjacent options with different names change places.
abbrev pub OrderIsFree : Type 0
OrderIsFree =
    (before after : List Given) (x y : Given) (name : List ℕ) → same x.name y.name ≡ false
    → (has_option (before ++ x ∷ y ∷ after) name ≡ has_option (before ++ y ∷ x ∷ after) name)
    × (value_of (before ++ x ∷ y ∷ after) name ≡ value_of (before ++ y ∷ x ∷ after) name)
