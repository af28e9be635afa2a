use Rattle.std.proofs.Common.{◌∙◌, ◌++◌, sym, ap}
use Rattle.std.proofs.lemmas.List.{append-nil}
use Rattle.gs_router.proofs.Ascending.{joined_in, listed_so}
use Rattle.gs_router.proofs.tables.own_topics.OwnTopics.joined.Goals as goal

pub returns : goal.returns
returns c = λ L agrees.
    let ordered = c.into_iter-topic-iterator.ensures.into_iter_gives.5 in
    sym (append-nil c.loop-topic.list.items)
    ∙ ap (λ es. c.loop-topic.list.items ++ joined_in es) (sym c.in-None.ensures.steps.0)
    ∙ c.loop-topic.invariant
    ∙ listed_so c.args.self.now L ordered agrees
