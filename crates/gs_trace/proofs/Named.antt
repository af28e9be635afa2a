-- A list of peers' names is the list of the peers by their names.
use Rattle.std.proofs.Common.{◌≡◌, ℕ, List, [], ◌∷◌, ◌++◌, codes, map, refl, ap}
use Rattle.std.specs.List.{flat_map}
use Rattle.gs_trace.specs.Texts.{after_comma, list_text}

more_named : {X Y : Type 0} (text : Y → List ℕ) (f : X → Y) (xs : List X)
    → flat_map (after_comma (λ (x : X). text (f x))) xs ≡ flat_map (after_comma text) (map f xs)
more_named text f [] = refl
more_named text f (x ∷ xs) = ap (λ (more : List ℕ). after_comma text (f x) ++ more) (more_named text f xs)

-- a list of values by what f makes of them
pub named : {X Y : Type 0} (text : Y → List ℕ) (f : X → Y) (xs : List X)
    → list_text (λ (x : X). text (f x)) xs ≡ list_text text (map f xs)
named text f [] = refl
named text f (x ∷ xs) = ap (λ (more : List ℕ). codes "[" ++ (text (f x) ++ more) ++ codes "]") (more_named text f xs)
