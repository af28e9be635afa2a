use Rattle.std.proofs.Common.{◌++◌, List, ap, append-nil, flat_map, sym, ◌∙◌}
use Rattle.gs_opinions.specs.declared.run.PairOpinion.{PairOpinion}
use Rattle.gs_opinions.proofs.Ascending.{as_row, rows_in_order}
use Rattle.gs_opinions.proofs.run.list_pairs.Goals as goal

pub returns : goal.returns
returns c =
    let row = as_row c.args.by c.args.count in
    sym (append-nil c.loop-of.pairs)
    ∙ ap (λ es. c.loop-of.pairs ++ flat_map row es) (sym c.in-None.ensures.steps.0)
    ∙ c.loop-of.invariant
    ∙ ap (λ (pairs : List PairOpinion). c.args.pairs.now ++ pairs) (rows_in_order c.args.by c.args.count c.args.row.now.entries c.into_iter-of-iterator.ensures.into_iter_gives.5)
