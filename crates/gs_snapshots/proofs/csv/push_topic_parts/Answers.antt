use Rattle.gs_trace.proofs.Appended.{and_then, last}
use Rattle.gs_snapshots.proofs.csv.push_topic_parts.Goals as goal

pub returns : goal.returns
returns c =
    let out = c.args.out.now.items in
    last out _ _ _ _ (and_then out _ _ (and_then out _ _ (and_then out _ _ (and_then out _ _
    c.in_ok-push_part_row.ensures
    c.in_ok-push_part_row-2.ensures)
    c.in_ok-push_part_row-3.ensures)
    c.in_ok-push_part_row-4.ensures)
    c.in_ok-push_part_row-5.ensures)
    c.push_amount_row.ensures
