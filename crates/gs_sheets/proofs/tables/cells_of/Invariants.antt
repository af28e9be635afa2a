use Rattle.std.proofs.Common.{◌≡◌, take}
use Rattle.gs_sheets.specs.Sheets.{table_row}
use Rattle.gs_sheets.proofs.tables.cells_of.Given as goal

-- the cells so far
abbrev pub invariant-loop-value : goal.invariant-loop-value
invariant-loop-value l = l.row ≡ table_row (take l.value-index l.values)
