use Rattle.std.proofs.Common.{◌≡◌, ◌++◌, drop, map, take}
use Rattle.gs_snapshots.specs.Noting.{with_fallen}
use Rattle.gs_snapshots.proofs.summaries.note_fallen.Given as goal

-- those so far have noted it
abbrev pub invariant-loop-summary : goal.invariant-loop-summary
invariant-loop-summary l =
    l.summaries ≡ map (with_fallen l.fallen) (take l.summary-index l.fn.summaries) ++ drop l.summary-index l.fn.summaries
