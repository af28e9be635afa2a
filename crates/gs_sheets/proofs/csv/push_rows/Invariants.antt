use Rattle.std.proofs.Common.{◌≡◌, ◌++◌, take}
use Rattle.std.specs.List.{flat_map}
use Rattle.gs_sheets.specs.Sheets.{csv_row}
use Rattle.gs_sheets.proofs.csv.push_rows.Given as goal

-- the rows so far come after what was there
abbrev pub invariant-loop-row : goal.invariant-loop-row
invariant-loop-row l =
    l.text.items ≡ l.initial.text.items ++ flat_map csv_row (take l.row-index l.rows)
