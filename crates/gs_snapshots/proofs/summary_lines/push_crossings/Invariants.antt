use Rattle.std.proofs.Common.{◌≡◌, ◌++◌, take}
use Rattle.std.specs.List.{flat_map}
use Rattle.gs_snapshots.specs.SummaryText.{crossing_text}
use Rattle.gs_snapshots.proofs.summary_lines.push_crossings.Given as goal

-- the crossings so far come after what was there
abbrev pub invariant-loop-crossing : goal.invariant-loop-crossing
invariant-loop-crossing l = l.out.items ≡ l.initial.out.items ++ flat_map crossing_text (take l.crossing-index l.crossings)
