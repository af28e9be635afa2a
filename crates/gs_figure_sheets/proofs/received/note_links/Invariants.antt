use Rattle.std.proofs.Common.{◌≡◌, take}
use Rattle.gs_base.specs.declared.names.PeerNo.{PeerNo}
use Rattle.gs_counts.specs.Listing.{links_to}
use Rattle.gs_figure_sheets.specs.Received.{received_in, sent_over}
use Rattle.gs_figure_sheets.proofs.received.note_links.Given as goal

-- what went over the links so far
abbrev pub invariant-loop-link : goal.invariant-loop-link
invariant-loop-link l =
    (p : PeerNo) → received_in l.rows p ≡ sent_over (received_in l.fn.rows p) (links_to p (take l.link-index l.links))
