use Rattle.std.proofs.Common.{sym}
use Rattle.gs_peer.proofs.Fullness.{not_all}
use Rattle.gs_peer.proofs.running.is_due.Goals as goal

-- one of them was seen not to be full
pub returns-then-last_not_full-inboxes : goal.returns-then-last_not_full-inboxes
returns-then-last_not_full-inboxes c =
    sym (not_all c.args.inboxes.now c.first_not_full.result (c.first_not_full.ensures.found c.if-last_not_full-inboxes.true))
