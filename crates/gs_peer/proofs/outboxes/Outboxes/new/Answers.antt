use Rattle.std.proofs.Common.{◌≡◌, ◌+◌, [], None, true, take, subst, sym}
use Rattle.std.specs.List.{AllByRecursion}
use Rattle.std.proofs.lemmas.List.{take_more}
use Rattle.futures.proofs.SentLemmas.{AllByRecursion-push, AllByRecursion_weaker}
use Rattle.gs_base.specs.declared.names.PeerNo.{PeerNo}
use Rattle.gs_peer.specs.Outboxes.{gathered_in, is_open, waiting}
use Rattle.gs_peer.proofs.BoxPlaces.{each_more, emptied, stays_open}
use Rattle.gs_peer.proofs.outboxes.Outboxes.new.Goals as goal

pub loop-neighbour-preserved : goal.loop-neighbour-preserved
loop-neighbour-preserved c =
    let e = c.in_ok-open.ensures in
    let i = c.loop-neighbour.invariant in
    let out = c.loop-neighbour.out in
    let so_far = take c.loop-neighbour.neighbour-index c.args.neighbours.now in
    let was = λ (q : PeerNo). is_open out q ≡ true in
    let now = λ (q : PeerNo). is_open c.open.new.self q ≡ true in
    let more = take_more c.args.neighbours.now c.loop-neighbour.neighbour-index _ c.loop-neighbour-test.true in
    record {
      may = subst (AllByRecursion now) (sym more) (AllByRecursion-push now so_far _ e.opened (AllByRecursion_weaker was now so_far (stays_open (is_open out) (is_open c.open.new.self) _ e.alone) i.may));
      alone = each_more (is_open out) (is_open c.open.new.self) _ so_far (take (c.loop-neighbour.neighbour-index + 1) c.args.neighbours.now) more e.alone i.alone;
      silent = λ q. emptied _ [] (waiting c.open.new.self q) (waiting out q) (e.silent q) (i.silent q);
      nothing = λ q. emptied _ None (gathered_in c.open.new.self q) (gathered_in out q) (e.gathered q) (i.nothing q);
    }
