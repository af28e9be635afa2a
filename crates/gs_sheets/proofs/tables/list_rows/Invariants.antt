use Rattle.std.proofs.Common.{◌≡◌, ◌++◌, take}
use Rattle.std.specs.Prelude.{map}
use Rattle.gs_sheets.specs.Sheets.{table_row}
use Rattle.gs_sheets.proofs.tables.list_rows.Given as goal

-- the rows so far come after what was there
abbrev pub invariant-loop-row : goal.invariant-loop-row
invariant-loop-row l = l.list ≡ l.initial.list ++ map table_row (take l.row-index l.rows)
