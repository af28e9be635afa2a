use Rattle.std.proofs.Common.{◌≡◌, take}
use Rattle.gs_base.specs.declared.names.PeerNo.{PeerNo}
use Rattle.gs_figure_sheets.specs.Between.{opinions_between}
use Rattle.gs_figure_sheets.specs.Lines.{just}
use Rattle.gs_figure_sheets.specs.Received.{judged, received_in}
use Rattle.gs_figure_sheets.proofs.received.note_opinions.Given as goal

-- the opinions so far
abbrev pub invariant-loop-pair : goal.invariant-loop-pair
invariant-loop-pair l =
    (p : PeerNo) → received_in l.rows p ≡ judged (received_in l.fn.rows p) (opinions_between l.among (just p) (take l.pair-index l.pairs))
