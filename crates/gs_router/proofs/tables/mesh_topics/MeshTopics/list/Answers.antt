use Rattle.std.proofs.Common.{◌∙◌, ◌++◌, sym, ap}
use Rattle.std.proofs.lemmas.List.{append-nil}
use Rattle.gs_router.proofs.Ascending.{used_in, used_so}
use Rattle.gs_router.proofs.tables.mesh_topics.MeshTopics.list.Goals as goal

pub returns : goal.returns
returns c = λ L agrees.
    let ordered = c.into_iter-topic-iterator.ensures.into_iter_gives.5 in
    sym (append-nil c.loop-topic.list.items)
    ∙ ap (λ es. c.loop-topic.list.items ++ used_in es) (sym c.in-None.ensures.steps.0)
    ∙ c.loop-topic.invariant
    ∙ used_so c.args.self.now L ordered agrees
