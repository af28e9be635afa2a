use Rattle.std.proofs.Common.{◌≡◌, take}
use Rattle.std.specs.Prelude.{map}
use Rattle.gs_figure_sheets.specs.Columns.{column_of}
use Rattle.gs_figure_sheets.proofs.columns.columns_of.Given as goal

-- the columns so far
abbrev pub invariant-loop-column : goal.invariant-loop-column
invariant-loop-column l = l.list ≡ map column_of (take l.column-index l.columns)
