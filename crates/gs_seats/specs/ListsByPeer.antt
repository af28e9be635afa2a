-- Lists among lists.
use Rattle.std.specs.Prelude.{ℕ, zero, suc, List, [], ◌∷◌, Vec}
use Rattle.std.specs.declared.alloc.Global.{Global}

-- the list at an index, or the empty list where there is none
abbrev pub list_at : {A : Type 0} → List (Vec A Global) → ℕ → List A
list_at [] n = []
list_at (list ∷ lists) zero = list.items
list_at (list ∷ lists) (suc n) = list_at lists n
