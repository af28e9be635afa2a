use Rattle.std.proofs.Common.{◌≡◌, ◌++◌, drop}
use Rattle.std.specs.List.{enumerate_from, flat_map}
use Rattle.gs_sheets.specs.Sheets.{json_line}
use Rattle.gs_sheets.proofs.json.push_lines.Given as goal

-- what was added so far, and what is left, come after what was there
abbrev pub invariant-loop-place : goal.invariant-loop-place
invariant-loop-place l =
    l.text.items ++ flat_map (json_line l.columns) (enumerate_from l.place (drop l.place l.rows)) ≡ l.initial.text.items ++ flat_map (json_line l.columns) (enumerate_from 0 l.rows)
