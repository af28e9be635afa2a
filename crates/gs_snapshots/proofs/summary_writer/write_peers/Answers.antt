use Rattle.std.proofs.Common.{◌≡◌, ◌||◌, ◌++◌, ◌+◌, ℕ, Bool, List, drop, flat_map, take, ap, sym, subst, ◌∙◌}
use Rattle.gs_base.specs.declared.names.PeerNo.{PeerNo}
use Rattle.gs_report.specs.declared.finished.Finished.{Finished}
use Rattle.gs_router.specs.Following.{AreInOrder}
use Rattle.gs_streams.specs.Streams.{AppendsFront}
use Rattle.gs_trace.specs.Pages.{Adds}
use Rattle.gs_trace.proofs.Writing.{at_err, cut_off, one_more, parts, pushed, so_far, turned}
use Rattle.gs_snapshots.specs.Summing.{is_text, summaries_if}
use Rattle.gs_snapshots.specs.Wishes.{wishes_of}
use Rattle.gs_snapshots.proofs.Fronts.{each_of}
use Rattle.gs_snapshots.proofs.Said.{in_either}
use Rattle.gs_snapshots.proofs.summary_writer.write_peers.Goals as goal
use Rattle.gs_snapshots.proofs.summary_writer.write_peers.Goals.{else-is_any, then-is_any}

pub push_peer_if-requires-clause-order : goal.push_peer_if-requires-clause-order
push_peer_if-requires-clause-order g c =
    subst (λ (x : PeerNo × Finished). AreInOrder x.1.trace) (sym c.peer-item.is)
    (each_of (λ (x : PeerNo × Finished). AreInOrder x.1.trace) c.args.peers.now c.loop-peer.peer-index c.peer-item.result c.loop-peer-test.true c.requires.order)

pub returns-in_err-is_said-clause-front : goal.returns-in_err-is_said-clause-front
returns-in_err-is_said-clause-front g c =
    let text = summaries_if (wishes_of c.args.wanted.now) c.args.plan.now in
    let xs = c.args.peers.now in
    let i = c.loop-peer.peer-index in
    at_err c.from_residual.result (so_far c.loop-peer.invariant.added (flat_map text xs) (flat_map text (drop i xs)) (parts text xs i))

pub returns-in_err-write_full-clause-front : goal.returns-in_err-write_full-clause-front
returns-in_err-write_full-clause-front g c =
    let text = summaries_if (wishes_of c.args.wanted.now) c.args.plan.now in
    let xs = c.args.peers.now in
    let i = c.loop-peer.peer-index in
    let d = c.peer-item.result in
    let so_far_and_this : flat_map text (take i xs) ++ text d ≡ flat_map text (take (i + 1) xs) =
    ap (λ (x : PeerNo × Finished). flat_map text (take i xs) ++ text x) c.peer-item.is ∙ one_more text xs i d c.loop-peer-test.true in
    let front : AppendsFront (g.W.Write.contents c.loop-peer.output) (g.W.Write.contents c.write_full.new.output) (c.loop-peer.page.items ++ text d) =
    subst (AppendsFront (g.W.Write.contents c.loop-peer.output) (g.W.Write.contents c.write_full.new.output)) c.in_ok-is_said.ensures.added c.in_err-write_full.ensures.front in
    at_err c.from_residual-in_err-write_full.result
    (cut_off c.loop-peer.invariant.added (g.W.Write.contents c.write_full.new.output) (text d) (flat_map text xs) (flat_map text (drop (i + 1) xs)) front
    (parts text xs (i + 1) ∙ ap (λ (front : List ℕ). front ++ flat_map text (drop (i + 1) xs)) (sym so_far_and_this)))

pub loop-peer-preserved : goal.loop-peer-preserved
loop-peer-preserved g c =
    let text = summaries_if (wishes_of c.args.wanted.now) c.args.plan.now in
    let xs = c.args.peers.now in
    let i = c.loop-peer.peer-index in
    let d = c.peer-item.result in
    let said = c.in_ok-is_said.is_said in
    let so_far_and_this : flat_map text (take i xs) ++ text d ≡ flat_map text (take (i + 1) xs) =
    ap (λ (x : PeerNo × Finished). flat_map text (take i xs) ++ text x) c.peer-item.is ∙ one_more text xs i d c.loop-peer-test.true in
    let joined : c.if-is_any.is_any ≡ (c.loop-peer.is_any || said) =
    elim c.if-is_any.branch [
      | then-is_any w ↦ w.is_any-is ∙ w.if-is_any.true ∙ sym (ap (λ (b : Bool). b || said) w.if-is_any.true)
      | else-is_any w ↦ w.is_any-is ∙ sym (ap (λ (b : Bool). b || said) w.if-is_any.false)
    ] in
    record {
      any = joined
          ∙ (λ j. c.loop-peer.invariant.any j || c.in_ok-is_said.ensures.any j)
          ∙ in_either (flat_map text (take i xs)) (text d)
          ∙ ap is_text so_far_and_this;
      added = subst (λ (front : List ℕ). Adds front c.args.page.now.items c.write_full.new.page.items (g.W.Write.contents c.args.output.now) (g.W.Write.contents c.write_full.new.output)) so_far_and_this
          (turned (pushed c.loop-peer.invariant.added (text d) c.in_ok-is_said.ensures.added) c.in_ok-write_full.ensures.added);
    }
