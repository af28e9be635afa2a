use Rattle.std.proofs.Common.{◌≡◌, ◌++◌, map}
use Rattle.std.specs.List.{range_with_len}
use Rattle.gs_figure_sheets.specs.declared.figure.Figure.TheVariants.{LowestOf}
use Rattle.gs_figure_sheets.proofs.section.push_groups.Given as goal

-- those of the groups so far come after what was there
abbrev pub invariant-loop-place : goal.invariant-loop-place
invariant-loop-place l = l.figures.items ≡ l.initial.figures.items ++ map LowestOf (range_with_len 0 l.place)
