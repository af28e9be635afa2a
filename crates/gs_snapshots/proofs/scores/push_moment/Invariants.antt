use Rattle.std.proofs.Common.{◌≡◌, ◌++◌, List, take}
use Rattle.std.specs.List.{flat_map}
use Rattle.gs_rules.specs.declared.trace.Entry.{Entry}
use Rattle.gs_rules.specs.Tables.{Entries}
use Rattle.gs_snapshots.specs.Scores.{text_about}
use Rattle.gs_snapshots.specs.Telling.{FollowsPeer}
use Rattle.gs_snapshots.proofs.scores.push_moment.Given as goal

-- what is told of the neighbours so far comes after what was there
abbrev pub invariant-loop-neighbour : goal.invariant-loop-neighbour
invariant-loop-neighbour l =
    (L : Entries) (left : List Entry)
    → FollowsPeer l.follower l.asked.plan.now l.moment.peer L left
    → l.out.items ≡ l.initial.out.items ++ flat_map (text_about l.asked.form l.asked.plan.now (l.moment, L)) (take l.neighbour-index l.asked.neighbours.items)
