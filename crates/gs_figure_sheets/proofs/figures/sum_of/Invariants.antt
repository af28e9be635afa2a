use Rattle.std.proofs.Common.{◌≡◌, take}
use Rattle.gs_figure_sheets.specs.Rows.{sum_of}
use Rattle.gs_figure_sheets.proofs.figures.sum_of.Given as goal

-- those of the rows so far in one
abbrev pub invariant-loop-row : goal.invariant-loop-row
invariant-loop-row l = l.sum ≡ sum_of l.chosen (take l.row-index l.rows)
