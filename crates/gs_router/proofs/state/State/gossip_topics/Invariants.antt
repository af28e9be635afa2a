use Rattle.std.proofs.Common.{◌≡◌, ◌++◌, drop, filter}
use Rattle.gs_rules.specs.Owed.{is_some_list}
use Rattle.gs_rules.specs.Gossip.{gossip}
use Rattle.gs_router.specs.Known.{peer_with}
use Rattle.gs_router.proofs.state.State.gossip_topics.Given as goal

abbrev pub invariant-loop-topic : goal.invariant-loop-topic
invariant-loop-topic g l =
    l.topics.items ++ filter (λ t. is_some_list (gossip (peer_with l.self.known.setup) l.self.trace t)) (drop l.topic-index l.topic-items)
    ≡ filter (λ t. is_some_list (gossip (peer_with l.self.known.setup) l.self.trace t)) l.topic-items
