use Rattle.std.proofs.Common.{◌≡◌, take}
use Rattle.gs_sheets.specs.Sheets.{table_header}
use Rattle.gs_sheets.proofs.tables.header.Given as goal

-- the headers so far
abbrev pub invariant-loop-column : goal.invariant-loop-column
invariant-loop-column l = l.row ≡ table_header (take l.column-index l.columns)
