use Rattle.gs_trace.proofs.Appended.{and_then, last}
use Rattle.gs_snapshots.proofs.json.push_line.Goals as goal

pub returns : goal.returns
returns c =
    let out = c.args.out.now.items in
    last out _ _ _ _ (and_then out _ _ (and_then out _ _ (and_then out _ _ (and_then out _ _ (and_then out _ _ (and_then out _ _ (and_then out _ _
    c.in_ok-push_moment.ensures
    c.in_ok-push_occasion.ensures)
    c.in_ok-push_code.ensures)
    c.in_ok-push_peer.ensures)
    c.in_ok-push_amount.ensures)
    c.in_ok-push_code-2.ensures)
    c.in_ok-push_topics.ensures)
    c.in_ok-push_score_parts.ensures)
    c.push_code-3.ensures
