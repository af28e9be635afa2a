use Rattle.std.proofs.Common.{◌≡◌, ◌++◌, map, take}
use Rattle.gs_figure_sheets.specs.Rows.{value_of}
use Rattle.gs_figure_sheets.proofs.figures.push_values.Given as goal

-- the values so far come after what was there
abbrev pub invariant-loop-figure : goal.invariant-loop-figure
invariant-loop-figure l = l.row ≡ l.initial.row ++ map (value_of l.line) (take l.figure-index l.figures)
