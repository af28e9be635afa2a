-- Lists that are dealt to groups in turns, like cards.
use Rattle.std.specs.Prelude.{◌≡◌, List, [], ◌∷◌, ◌++◌, map, Vec}
use Rattle.std.specs.List.{AllByRecursion}
use Rattle.std.specs.declared.alloc.Global.{Global}

-- the groups as lists
abbrev pub lists_of : {A : Type 0} → List (Vec A Global) → List (List A)
lists_of groups = map (λ group. group.items) groups

-- R holds for each item of xs and what was dealt for it. For the first item, that is the last element of the first group. The
-- same holds for the rest of xs, without that element and with that group after the other groups
abbrev pub IsDealt : {X Y : Type 0} → (X → Y → Type 0) → List X → List (List Y) → Type 0
IsDealt R [] groups = AllByRecursion (λ group. group ≡ []) groups
IsDealt R (x ∷ xs) [] = ⊥
IsDealt {X} {Y} R (x ∷ xs) (group ∷ groups) =
    (below : List Y) × (top : Y)
    × (group ≡ below ++ top ∷ [])
    × R x top
    × IsDealt R xs (groups ++ below ∷ [])
