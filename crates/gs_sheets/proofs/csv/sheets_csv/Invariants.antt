use Rattle.std.proofs.Common.{◌≡◌, ◌++◌, drop}
use Rattle.std.specs.List.{enumerate_from, flat_map}
use Rattle.gs_sheets.specs.Sheets.{between, sheet_csv}
use Rattle.gs_sheets.proofs.csv.sheets_csv.Given as goal

-- what was added so far, and what is left, come after what was there
abbrev pub invariant-loop-place : goal.invariant-loop-place
invariant-loop-place l =
    l.text.items ++ flat_map (λ x. between x.0 ++ sheet_csv x.1) (enumerate_from l.place (drop l.place l.sheets)) ≡ flat_map (λ x. between x.0 ++ sheet_csv x.1) (enumerate_from 0 l.sheets)
