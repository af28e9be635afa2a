use Rattle.std.proofs.Common.{◌≡◌, ◌++◌, drop, filter}
use Rattle.gs_rules.specs.Meshes.{has_fanout}
use Rattle.gs_router.proofs.state.State.fanout_topics.Given as goal

abbrev pub invariant-loop-topic : goal.invariant-loop-topic
invariant-loop-topic g l =
    l.topics.items ++ filter (has_fanout l.self.trace) (drop l.topic-index l.topic-items) ≡ filter (has_fanout l.self.trace) l.topic-items
