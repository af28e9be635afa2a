use Rattle.std.proofs.Common.{◌≡◌, ◌++◌, ◌+◌, ℕ, List, drop, flat_map, take, ap, sym, subst, ◌∙◌}
use Rattle.gs_base.specs.declared.names.PeerNo.{PeerNo}
use Rattle.gs_report.specs.declared.finished.Finished.{Finished}
use Rattle.gs_router.specs.Following.{AreInOrder}
use Rattle.gs_trace.specs.Pages.{Adds}
use Rattle.gs_trace.proofs.Writing.{and_more, at_err, cut_off, one_more, parts}
use Rattle.gs_snapshots.specs.Telling.{text_if}
use Rattle.gs_snapshots.specs.Wishes.{wishes_of}
use Rattle.gs_snapshots.proofs.Fronts.{each_of}
use Rattle.gs_snapshots.proofs.scores.write_peers.Goals as goal

pub write_peer_if-requires-clause-order : goal.write_peer_if-requires-clause-order
write_peer_if-requires-clause-order g c =
    subst (λ (x : PeerNo × Finished). AreInOrder x.1.trace) (sym c.peer-item.is)
    (each_of (λ (x : PeerNo × Finished). AreInOrder x.1.trace) c.args.peers.now c.loop-peer.peer-index c.peer-item.result c.loop-peer-test.true c.requires.order)

pub returns-in_err-write_peer_if-clause-front : goal.returns-in_err-write_peer_if-clause-front
returns-in_err-write_peer_if-clause-front g c =
    let text = text_if (wishes_of c.args.wanted.now) c.args.plan.now in
    let xs = c.args.peers.now in
    let i = c.loop-peer.peer-index in
    let d = c.peer-item.result in
    let so_far_and_this : flat_map text (take i xs) ++ text d ≡ flat_map text (take (i + 1) xs) =
    ap (λ (x : PeerNo × Finished). flat_map text (take i xs) ++ text x) c.peer-item.is ∙ one_more text xs i d c.loop-peer-test.true in
    at_err c.from_residual.result
    (cut_off c.loop-peer.invariant (g.W.Write.contents c.write_peer_if.new.output) (text d) (flat_map text xs) (flat_map text (drop (i + 1) xs)) c.in_err-write_peer_if.ensures.front
    (parts text xs (i + 1) ∙ ap (λ (front : List ℕ). front ++ flat_map text (drop (i + 1) xs)) (sym so_far_and_this)))

pub loop-peer-preserved : goal.loop-peer-preserved
loop-peer-preserved g c =
    let text = text_if (wishes_of c.args.wanted.now) c.args.plan.now in
    let xs = c.args.peers.now in
    let i = c.loop-peer.peer-index in
    let d = c.peer-item.result in
    let so_far_and_this : flat_map text (take i xs) ++ text d ≡ flat_map text (take (i + 1) xs) =
    ap (λ (x : PeerNo × Finished). flat_map text (take i xs) ++ text x) c.peer-item.is ∙ one_more text xs i d c.loop-peer-test.true in
    subst (λ (front : List ℕ). Adds front c.args.page.now.items c.write_peer_if.new.page.items (g.W.Write.contents c.args.output.now) (g.W.Write.contents c.write_peer_if.new.output)) so_far_and_this
    (and_more c.loop-peer.invariant c.in_ok-write_peer_if.ensures.added)
