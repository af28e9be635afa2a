use Rattle.std.proofs.Common.{◌≡◌, ◌++◌, take}
use Rattle.gs_base.specs.Names.{peers_of}
use Rattle.gs_counts.specs.Listing.{links_by}
use Rattle.gs_counts.specs.Standing.{link_row}
use Rattle.gs_counts.proofs.run.list_links.Given as goal

-- the links to the neighbours so far come after what was listed
abbrev pub invariant-loop-neighbour : goal.invariant-loop-neighbour
invariant-loop-neighbour l =
    l.links ≡ l.initial.links ++ links_by l.from (link_row l.rows l.from) (peers_of (take l.neighbour-index l.neighbours))
