use Rattle.gs_trace.proofs.Appended.{and_then, last}
use Rattle.gs_snapshots.specs.Csv.{rows_from}
use Rattle.gs_snapshots.proofs.csv.push_rows_from.Goals as goal

pub returns : goal.returns
unfolding rows_from
returns c =
    let out = c.args.out.now.items in
    last out _ _ _ _ (and_then out _ _
    c.in_ok-push_amount_row.ensures
    c.in_ok-push_each_topic.ensures)
    c.push_score_parts.ensures
