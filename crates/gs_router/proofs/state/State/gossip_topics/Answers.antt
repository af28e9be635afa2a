use Rattle.std.proofs.Common.{◌++◌, arith, filter, append-nil, List, sym, ap, ◌∙◌}
use Rattle.std.proofs.lemmas.List.{drop_all}
use Rattle.gs_base.specs.declared.names.Topic.{Topic}
use Rattle.gs_rules.specs.Owed.{is_some_list}
use Rattle.gs_rules.specs.Gossip.{gossip}
use Rattle.gs_router.specs.Known.{peer_with}
use Rattle.gs_router.proofs.state.State.gossip_topics.Goals as goal

pub returns : goal.returns
returns g c =
    let s = c.args.self.now in
    let items : List Topic = c.as_slice-topic-items.result.now in
    let none = drop_all c.loop-topic.topic-index items (omega (arith, c.loop-topic-test.false)) in
    sym (append-nil c.loop-topic.topics.items)
    ∙ ap (λ (rest : List Topic). c.loop-topic.topics.items ++ filter (λ t. is_some_list (gossip (peer_with s.known.setup) s.trace t)) rest) (sym none)
    ∙ c.loop-topic.invariant
    ∙ ap (filter (λ t. is_some_list (gossip (peer_with s.known.setup) s.trace t))) (c.as_slice-topic-items.ensures.value ∙ c.in_ok-all.ensures s.trace c.requires.agrees.mesh_topics)
