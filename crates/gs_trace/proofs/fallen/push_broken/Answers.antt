use Rattle.gs_trace.proofs.Appended.{and_then, last}
use Rattle.gs_trace.proofs.fallen.push_broken.Goals as goal

pub returns : goal.returns
returns c =
    let out = c.args.out.now.items in
    last out _ _ _ _ (and_then out _ _ (and_then out _ _ (and_then out _ _
    c.in_ok-push_of.ensures
    c.in_ok-push_code.ensures)
    c.in_ok-push.ensures)
    c.in_ok-push_code-2.ensures)
    c.push-2.ensures
