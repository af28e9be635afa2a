use Rattle.std.proofs.Common.{◌≡◌, take}
use Rattle.gs_sheets.specs.Tables.{width_of}
use Rattle.gs_sheets.proofs.table.width_of.Given as goal

-- the width of the rows so far
abbrev pub invariant-loop-row : goal.invariant-loop-row
invariant-loop-row l = l.width ≡ width_of (take l.row-index l.rows) l.column
