use Rattle.gs_trace.proofs.Appended.{and_then, last}
use Rattle.gs_snapshots.proofs.json.push_moment.Goals as goal

pub returns : goal.returns
returns c =
    let out = c.args.out.now.items in
    last out _ _ _ _ (and_then out _ _ (and_then out _ _ (and_then out _ _ (and_then out _ _ (and_then out _ _
    c.in_ok-push_code.ensures
    c.in_ok-push_number.ensures)
    c.in_ok-push_code-2.ensures)
    c.in_ok-push_number-2.ensures)
    c.in_ok-push_code-3.ensures)
    c.in_ok-push_peer.ensures)
    c.push_code-4.ensures
