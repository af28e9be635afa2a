-- Lines of a script, followed one after the other.
use Rattle.std.proofs.Common.{◌≡◌, ◌<◌, ◌+◌, ℕ, List, [], ◌∷◌, ◌++◌, length, drop, get_or, map, sym, ap, ◌∙◌, append_assoc}
use Rattle.std.proofs.lemmas.List.{drop_more}
use Rattle.gs_plan.specs.declared.plan.Line.{Line}
use Rattle.gs_rules.specs.Rounds.{Todo, obey}

-- one line more is done, and those after it are left
pub line_done : (xs : List (ℕ × Line)) (n : ℕ) (x : ℕ × Line) (done all : List Todo)
    → n < length xs
    → x ≡ get_or xs n x
    → done ++ map obey (drop n xs) ≡ all
    → (done ++ obey x ∷ []) ++ map obey (drop (n + 1) xs) ≡ all
line_done xs n x done all low is h =
    append_assoc done (obey x ∷ []) (map obey (drop (n + 1) xs))
    ∙ ap (λ (todos : List Todo). done ++ todos) (ap (λ (y : ℕ × Line). obey y ∷ map obey (drop (n + 1) xs)) is ∙ ap (λ (ys : List (ℕ × Line)). map obey ys) (sym (drop_more xs n x low)))
    ∙ h
