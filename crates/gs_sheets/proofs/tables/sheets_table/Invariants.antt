use Rattle.std.proofs.Common.{◌≡◌, ◌++◌, drop}
use Rattle.std.specs.List.{enumerate_from, flat_map}
use Rattle.gs_sheets.specs.Sheets.{placed_table}
use Rattle.gs_sheets.proofs.tables.sheets_table.Given as goal

-- what was added so far, and what is left, come after what was there
abbrev pub invariant-loop-place : goal.invariant-loop-place
invariant-loop-place l =
    l.text.items ++ flat_map placed_table (enumerate_from l.place (drop l.place l.sheets)) ≡ flat_map placed_table (enumerate_from 0 l.sheets)
