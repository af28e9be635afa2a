use Rattle.std.proofs.Common.{◌++◌, ◌+◌, List, [], ◌∷◌, take, sym, ap, ◌∙◌, subst}
use Rattle.std.proofs.lemmas.List.{take_more}
use Rattle.gs_base.specs.declared.names.PeerNo.{PeerNo}
use Rattle.gs_report.specs.declared.finished.Finished.{Finished}
use Rattle.gs_router.specs.declared.follower.Follower.{Follower}
use Rattle.gs_router.specs.Following.{AreInOrder}
use Rattle.gs_trace.specs.Starts.{StandAt}
use Rattle.gs_trace.proofs.Starts.{all_at, stand_more}
use Rattle.gs_trace.proofs.readers.readers_of.Goals as goal

pub reader_of-requires-clause-order : goal.reader_of-requires-clause-order
reader_of-requires-clause-order c =
    subst (λ (x : PeerNo × Finished). AreInOrder x.1.trace) (sym c.peer-item.is)
    (all_at (λ (x : PeerNo × Finished). AreInOrder x.1.trace) c.args.peers.now c.loop-peer.peer-index c.peer-item.result c.requires.order c.loop-peer-test.true)

pub loop-peer-preserved : goal.loop-peer-preserved
loop-peer-preserved c =
    let plan = c.args.plan.now in
    let xs = c.args.peers.now in
    let i = c.loop-peer.peer-index in
    let x = c.peer-item.result in
    let fs = c.loop-peer.readers.items in
    let f = c.in_ok-reader.reader in
    let more : StandAt plan 0 0 (take i xs ++ x ∷ []) (fs ++ f ∷ []) = stand_more plan 0 (take i xs) fs x f c.loop-peer.invariant c.in_ok-reader.ensures in
    subst (λ (readers : List Follower). StandAt plan 0 0 (take (i + 1) xs) readers) (sym c.in_ok-push.ensures.items)
    (subst (λ (peers : List (PeerNo × Finished)). StandAt plan 0 0 peers (fs ++ f ∷ []))
    (ap (λ (y : PeerNo × Finished). take i xs ++ y ∷ []) c.peer-item.is ∙ sym (take_more xs i x c.loop-peer-test.true)) more)
