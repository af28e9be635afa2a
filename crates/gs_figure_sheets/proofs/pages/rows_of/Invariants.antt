use Rattle.std.proofs.Common.{◌≡◌, map, take}
use Rattle.gs_figure_sheets.specs.Rows.{line_row}
use Rattle.gs_figure_sheets.proofs.pages.rows_of.Given as goal

-- the rows so far
abbrev pub invariant-loop-line : goal.invariant-loop-line
invariant-loop-line l = l.rows ≡ map (line_row l.figures) (take l.line-index l.lines)
