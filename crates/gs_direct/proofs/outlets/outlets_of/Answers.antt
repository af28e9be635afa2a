use Rattle.std.proofs.Common.{◌≡◌, ◌+◌, ◌++◌, List, [], ◌∷◌, take, sym, ap, subst₂, ◌∙◌}
use Rattle.std.specs.List.{AllZip}
use Rattle.std.proofs.lemmas.List.{map-append, take_more}
use Rattle.gs_base.specs.declared.names.PeerNo.{PeerNo}
use Rattle.gs_base.specs.Names.{peers_of}
use Rattle.gs_direct.specs.declared.outlet.Outlet.{Outlet}
use Rattle.gs_direct.specs.Outlets.{IsNew}
use Rattle.gs_direct.proofs.Pairs.{zip_push}
use Rattle.gs_direct.proofs.outlets.outlets_of.Goals as goal

pub loop-neighbour-preserved : goal.loop-neighbour-preserved
loop-neighbour-preserved c =
    let ns = c.args.neighbours.now in
    let n = c.loop-neighbour.neighbour-index in
    let x = c.neighbour-item.result in
    let more : peers_of (take (n + 1) ns) ≡ peers_of (take n ns) ++ x.peer ∷ [] =
    ap peers_of (take_more ns n x c.loop-neighbour-test.true ∙ ap (λ y. take n ns ++ y ∷ []) (sym c.neighbour-item.is)) ∙ map-append (λ y. y.peer) (take n ns) (x ∷ []) in
    subst₂ (AllZip IsNew) (sym {A = List PeerNo} more) (sym {A = List Outlet} c.in_ok-push.ensures.items)
    (zip_push IsNew (peers_of (take n ns)) c.loop-neighbour.outlets.items x.peer c.new.result c.loop-neighbour.invariant c.new.ensures)
