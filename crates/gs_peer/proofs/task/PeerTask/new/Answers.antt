use Rattle.gs_peer.proofs.Suspending.{suspended}
use Rattle.gs_peer.proofs.task.PeerTask.new.Goals as goal

pub returns-in-Ok-clause-suspended : goal.returns-in-Ok-clause-suspended
returns-in-Ok-clause-suspended g c =
    suspended g.S.Ends c.in-Ok.running c.in-Ok.ensures.kept
