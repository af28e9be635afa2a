use Rattle.std.proofs.Common.{◌∷◌, ◌++◌, List, [], ap, append-nil, sym, ◌∙◌}
use Rattle.std.proofs.lemmas.List.{take_all}
use Rattle.gs_base.specs.Names.{peers_of}
use Rattle.gs_base.specs.declared.neighbour.Neighbour.{Neighbour}
use Rattle.gs_counts.specs.declared.run.LinkCounts.{LinkCounts}
use Rattle.gs_counts.specs.Listing.{links_by}
use Rattle.gs_counts.specs.Standing.{link_row}
use Rattle.gs_counts.proofs.Listing.{one_link}
use Rattle.gs_counts.proofs.run.list_links.Goals as goal

pub loop-neighbour-init : goal.loop-neighbour-init
loop-neighbour-init c = sym (append-nil c.args.links.now)

pub loop-neighbour-preserved : goal.loop-neighbour-preserved
loop-neighbour-preserved c =
    let row = link_row c.args.rows.now c.args.from in
    let n = c.neighbour-item.result in
    c.in_ok-list_link.ensures
    ∙ ap (λ (xs : List LinkCounts). xs ++ links_by c.args.from row (n.peer ∷ [])) c.loop-neighbour.invariant
    ∙ one_link c.args.links.now c.args.from row c.args.neighbours.now c.loop-neighbour.neighbour-index n c.loop-neighbour-test.true c.neighbour-item.is

pub returns : goal.returns
returns c =
    c.loop-neighbour.invariant
    ∙ ap (λ (ns : List Neighbour). c.args.links.now ++ links_by c.args.from (link_row c.args.rows.now c.args.from) (peers_of ns)) (take_all c.loop-neighbour.neighbour-index c.args.neighbours.now c.loop-neighbour-test.false)
