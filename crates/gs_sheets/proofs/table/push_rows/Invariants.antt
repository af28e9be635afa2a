use Rattle.std.proofs.Common.{◌≡◌, ◌++◌, take}
use Rattle.std.specs.List.{flat_map}
use Rattle.gs_sheets.specs.Tables.{row_text}
use Rattle.gs_sheets.proofs.table.push_rows.Given as goal

-- the rows so far come after what was there
abbrev pub invariant-loop-row : goal.invariant-loop-row
invariant-loop-row l = l.text.items ≡ l.initial.text.items ++ flat_map (row_text l.layout) (take l.row-index l.rows)
