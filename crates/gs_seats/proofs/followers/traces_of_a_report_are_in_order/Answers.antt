use Rattle.std.proofs.Common.{[], map}
use Rattle.gs_base.specs.declared.names.PeerNo.{PeerNo}
use Rattle.gs_report.specs.declared.finished.Finished.{Finished}
use Rattle.gs_rules.specs.Modes.{free}
use Rattle.gs_router.specs.Following.{AreInOrder}
use Rattle.gs_seats.specs.Rounds.{IsLifeInRun, numbers, peer_in}
use Rattle.gs_seats.proofs.Ordered.{each_numbered, legal_in_order}
use Rattle.gs_seats.proofs.followers.traces_of_a_report_are_in_order.Goals as goal

pub returns : goal.returns
returns c = λ plan report is.
    each_numbered (IsLifeInRun plan (map (λ (x : PeerNo × Finished). x.1) report.peers.items)) (λ (life : Finished). AreInOrder life.trace)
    (λ p life held. legal_in_order free (peer_in plan p) tt life.trace tt held.legal) (numbers plan) report.peers.items is.run
