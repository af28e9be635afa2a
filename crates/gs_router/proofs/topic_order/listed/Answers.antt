use Rattle.std.proofs.Common.{◌∙◌, ◌++◌, sym, ap}
use Rattle.std.proofs.lemmas.List.{append-nil}
use Rattle.gs_router.proofs.Ascending.{joined_in, put_in_order}
use Rattle.gs_router.proofs.topic_order.listed.Goals as goal

pub returns : goal.returns
returns c = λ ts has.
    sym (append-nil c.loop-topic.list.items)
    ∙ ap (λ es. c.loop-topic.list.items ++ joined_in es) (sym c.in-None.ensures.steps.0)
    ∙ c.loop-topic.invariant
    ∙ put_in_order ts c.args.tree.now.entries c.into_iter-topic-iterator.ensures.into_iter_gives.5 has
