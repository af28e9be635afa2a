use Rattle.gs_trace.proofs.Appended.{and_then, last}
use Rattle.gs_snapshots.proofs.csv.push_score_parts.Goals as goal

pub returns : goal.returns
returns c =
    let out = c.args.out.now.items in
    last out _ _ _ _ (and_then out _ _ (and_then out _ _ (and_then out _ _
    c.in_ok-push_amount_row.ensures
    c.in_ok-push_amount_row-2.ensures)
    c.in_ok-push_part_row.ensures)
    c.in_ok-push_colocation_row.ensures)
    c.push_part_row-2.ensures
