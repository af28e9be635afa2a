use Rattle.std.proofs.Common.{ℕ, List, [], ◌∷◌, ◌++◌, map, ap, sym, zero-add, ◌∙◌}
use Rattle.std.specs.List.{range_with_len}
use Rattle.std.proofs.lemmas.List.{append_assoc}
use Rattle.std.proofs.lemmas.List.FromFn.{map-range_with_len_more}
use Rattle.gs_figure_sheets.specs.declared.figure.Figure.{Figure}
use Rattle.gs_figure_sheets.specs.declared.figure.Figure.TheVariants.{LowestOf}
use Rattle.gs_figure_sheets.proofs.section.push_groups.Goals as goal

pub loop-place-preserved : goal.loop-place-preserved
loop-place-preserved c =
    let n : ℕ = c.loop-place.place in
    let here : List Figure = map LowestOf (range_with_len 0 n) in
    c.in_ok-push.ensures.items
    ∙ ap (λ (xs : List Figure). xs ++ LowestOf n ∷ []) c.loop-place.invariant
    ∙ append_assoc c.args.figures.now.items here (LowestOf n ∷ [])
    ∙ ap (λ (xs : List Figure). c.args.figures.now.items ++ xs) (sym (map-range_with_len_more LowestOf 0 n n (zero-add n)))
