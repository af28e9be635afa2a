use Rattle.std.proofs.Common.{◌≡◌, ◌++◌, drop}
use Rattle.std.specs.List.{enumerate_from, flat_map}
use Rattle.gs_sheets.specs.Sheets.{comma}
use Rattle.gs_sheets.specs.Texts.{csv_value}
use Rattle.gs_sheets.proofs.csv.push_row.Given as goal

-- what was added so far, and what is left, come after what was there
abbrev pub invariant-loop-place : goal.invariant-loop-place
invariant-loop-place l =
    l.text.items ++ flat_map (λ x. comma x.0 ++ csv_value x.1) (enumerate_from l.place (drop l.place l.row)) ≡ l.initial.text.items ++ flat_map (λ x. comma x.0 ++ csv_value x.1) (enumerate_from 0 l.row)
