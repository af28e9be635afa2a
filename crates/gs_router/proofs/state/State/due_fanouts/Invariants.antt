use Rattle.std.proofs.Common.{◌≡◌, ◌++◌, drop, map}
use Rattle.gs_rules.specs.BeatRules.{fan_event}
use Rattle.gs_router.specs.Beats.{event_of}
use Rattle.gs_router.specs.Known.{peer_with}
use Rattle.gs_router.proofs.state.State.due_fanouts.Given as goal

abbrev pub invariant-loop-topic : goal.invariant-loop-topic
invariant-loop-topic g l =
    map event_of l.list.items ++ map (fan_event (peer_with l.self.known.setup) l.self.trace l.now.0) (drop l.topic-index l.topic-items)
    ≡ map (fan_event (peer_with l.self.known.setup) l.self.trace l.now.0) l.topic-items
