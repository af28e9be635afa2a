use Rattle.std.proofs.Common.{◌≡◌, List, length, drop, reverse}
use Rattle.gs_rules.specs.declared.trace.Entry.{Entry}
use Rattle.gs_rules.specs.Tables.{Entries}
use Rattle.gs_snapshots.specs.Telling.{FollowsPeer}
use Rattle.gs_snapshots.proofs.Seeing.{HasSummed}
use Rattle.gs_snapshots.proofs.summaries.sum_up.Given as goal

-- the reader went on, and the summaries with it
abbrev pub invariant-loop-seen : goal.invariant-loop-seen
invariant-loop-seen l =
    (v : Entries × List Entry) → FollowsPeer l.initial.follower l.summed.plan.now l.summed.peer v.0 v.1
    → HasSummed l.summed v l.initial.summaries l.follower l.summaries

abbrev pub decreases-loop-seen : goal.decreases-loop-seen
decreases-loop-seen l = length (drop l.follower.place (reverse l.follower.trace.now))
