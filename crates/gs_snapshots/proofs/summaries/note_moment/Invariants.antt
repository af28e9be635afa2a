use Rattle.std.proofs.Common.{◌≡◌, ◌++◌, List, drop, map, take}
use Rattle.gs_rules.specs.declared.trace.Entry.{Entry}
use Rattle.gs_rules.specs.Tables.{Entries}
use Rattle.gs_snapshots.specs.Summing.{with_moment}
use Rattle.gs_snapshots.specs.Telling.{FollowsPeer}
use Rattle.gs_snapshots.proofs.summaries.note_moment.Given as goal

-- those so far have noted the moment
abbrev pub invariant-loop-summary : goal.invariant-loop-summary
invariant-loop-summary l =
    (L : Entries) (left : List Entry)
    → FollowsPeer l.follower l.summed.plan.now l.summed.peer L left
    → l.summaries
    ≡ map (with_moment l.summed.plan.now l.summed.peer (l.moment, L)) (take l.summary-index l.fn.summaries) ++ drop l.summary-index l.fn.summaries
