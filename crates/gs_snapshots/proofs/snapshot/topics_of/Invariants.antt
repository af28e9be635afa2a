use Rattle.std.proofs.Common.{◌≡◌, map, take}
use Rattle.gs_router.specs.Following.{Follows, Reading}
use Rattle.gs_snapshots.specs.Snapshots.{on_topic}
use Rattle.gs_snapshots.proofs.snapshot.topics_of.Given as goal

-- what each of the topics so far gives
abbrev pub invariant-loop-topic : goal.invariant-loop-topic
invariant-loop-topic l =
    (v : Reading)
    → Follows l.follower v
    → l.list ≡ map (on_topic v.peer v.before l.at.0 l.neighbour) (take l.topic-index l.topic-items)
