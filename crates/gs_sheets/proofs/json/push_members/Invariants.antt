use Rattle.std.proofs.Common.{◌≡◌, ◌++◌, drop}
use Rattle.std.specs.List.{enumerate_from, flat_map}
use Rattle.gs_sheets.specs.Sheets.{json_member}
use Rattle.gs_sheets.proofs.json.push_members.Given as goal

-- what was added so far, and what is left, come after what was there
abbrev pub invariant-loop-place : goal.invariant-loop-place
invariant-loop-place l =
    l.text.items ++ flat_map (json_member l.columns) (enumerate_from l.place (drop l.place l.row)) ≡ l.initial.text.items ++ flat_map (json_member l.columns) (enumerate_from 0 l.row)
