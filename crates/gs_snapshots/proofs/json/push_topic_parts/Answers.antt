use Rattle.gs_trace.proofs.Appended.{and_then, last}
use Rattle.gs_snapshots.proofs.json.push_topic_parts.Goals as goal

pub returns : goal.returns
returns c =
    let out = c.args.out.now.items in
    last out _ _ _ _ (and_then out _ _ (and_then out _ _ (and_then out _ _ (and_then out _ _
    c.in_ok-push_part.ensures
    c.in_ok-push_part-2.ensures)
    c.in_ok-push_part-3.ensures)
    c.in_ok-push_part-4.ensures)
    c.in_ok-push_part-5.ensures)
    c.push_amount.ensures
