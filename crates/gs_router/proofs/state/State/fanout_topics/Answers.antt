use Rattle.std.proofs.Common.{◌++◌, arith, filter, append-nil, List, sym, ap, ◌∙◌}
use Rattle.std.proofs.lemmas.List.{drop_all}
use Rattle.gs_base.specs.declared.names.Topic.{Topic}
use Rattle.gs_rules.specs.Meshes.{has_fanout}
use Rattle.gs_router.proofs.state.State.fanout_topics.Goals as goal

pub returns : goal.returns
returns g c =
    let s = c.args.self.now in
    let items : List Topic = c.as_slice-topic-items.result.now in
    let none = drop_all c.loop-topic.topic-index items (omega (arith, c.loop-topic-test.false)) in
    sym (append-nil c.loop-topic.topics.items)
    ∙ ap (λ (rest : List Topic). c.loop-topic.topics.items ++ filter (has_fanout s.trace) rest) (sym none)
    ∙ c.loop-topic.invariant
    ∙ ap (filter (has_fanout s.trace)) (c.as_slice-topic-items.ensures.value ∙ c.in_ok-all.ensures s.trace c.requires.agrees.mesh_topics)
