use Rattle.gs_trace.proofs.Appended.{and_then, last}
use Rattle.gs_trace.proofs.refusals.push_refusal.Goals as goal

pub returns : goal.returns
returns c =
    let out = c.args.out.now.items in
    last out _ _ _ _ (and_then out _ _
    c.in_ok-push_start.ensures
    c.in_ok-push_refused.ensures)
    c.push_code.ensures
