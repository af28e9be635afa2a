use Rattle.std.proofs.Common.{◌++◌, ap, append-nil, map, sym, ◌∙◌}
use Rattle.gs_counts.proofs.Sorted.{as_row, rows_in_order}
use Rattle.gs_counts.proofs.run.topic_rows.Goals as goal

pub returns : goal.returns
returns c = λ hs has.
    sym (append-nil c.loop-topic.topics)
    ∙ ap (λ es. c.loop-topic.topics ++ map as_row es) (sym c.in-None.ensures.steps.0)
    ∙ c.loop-topic.invariant
    ∙ rows_in_order c.args.rows.now.entries hs c.into_iter-topic-iterator.ensures.into_iter_gives.5 has
