use Rattle.std.proofs.Common.{◌≡◌, ◌++◌, take}
use Rattle.std.specs.List.{flat_map}
use Rattle.gs_report.specs.Text.{entry_faults}
use Rattle.gs_report.proofs.text.push_faults.Given as goal

-- the lines of the entries so far come after what was there
abbrev pub invariant-loop-entry : goal.invariant-loop-entry
invariant-loop-entry l =
    l.text.items ≡ l.initial.text.items ++ flat_map (entry_faults l.plan l.name) (take l.entry-index l.trace)
