use Rattle.std.proofs.Common.{◌≡◌, take}
use Rattle.gs_base.specs.declared.names.PeerNo.{PeerNo}
use Rattle.gs_figure_sheets.specs.Between.{scores_about}
use Rattle.gs_figure_sheets.specs.Lines.{just}
use Rattle.gs_figure_sheets.specs.Received.{received_in, scored}
use Rattle.gs_figure_sheets.proofs.received.note_given.Given as goal

-- the scores so far
abbrev pub invariant-loop-score : goal.invariant-loop-score
invariant-loop-score l =
    (p : PeerNo) → received_in l.rows p ≡ scored (received_in l.fn.rows p) (scores_about (just p) (take l.score-index l.scores))
