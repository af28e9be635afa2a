use Rattle.std.proofs.Common.{◌≡◌, take}
use Rattle.gs_base.specs.declared.names.PeerNo.{PeerNo}
use Rattle.gs_figure_sheets.specs.Between.{scores_between}
use Rattle.gs_figure_sheets.specs.Lines.{just}
use Rattle.gs_figure_sheets.specs.Received.{received_in, scored}
use Rattle.gs_figure_sheets.proofs.received.note_scores.Given as goal

-- what the peers so far score
abbrev pub invariant-loop-peer : goal.invariant-loop-peer
invariant-loop-peer l =
    (p : PeerNo) → received_in l.rows p ≡ scored (received_in l.fn.rows p) (scores_between l.among (just p) (take l.peer-index l.peers))
