use Rattle.std.proofs.Common.{◌≡◌, ◌++◌, take}
use Rattle.std.specs.List.{flat_map}
use Rattle.gs_report.specs.Text.{entry_lines}
use Rattle.gs_report.proofs.text.push_entries.Given as goal

-- the lines of the entries so far come after what was there
abbrev pub invariant-loop-entry : goal.invariant-loop-entry
invariant-loop-entry l =
    l.text.items ≡ l.initial.text.items ++ flat_map (entry_lines l.name) (take l.entry-index l.entries)
