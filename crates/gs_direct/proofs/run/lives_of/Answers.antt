use Rattle.std.proofs.Common.{rules, ◌≡◌, false, suc, [], List, length, map, refl, sym, ap, subst, ◌∙◌, IfOk, Result, Ok, Err}
use Rattle.std.specs.List.{AllByRecursion}
use Rattle.gs_base.specs.declared.names.PeerNo.{PeerNo}
use Rattle.gs_report.specs.declared.finished.Finished.{Finished}
use Rattle.gs_seats.specs.Rounds.{IsRun}
use Rattle.gs_seats.proofs.ByNumber.{as_many}
use Rattle.gs_direct.specs.declared.peer.Peer.{Peer}
use Rattle.gs_direct.specs.Peers.{IsNewPeer}
use Rattle.gs_direct.specs.Runs.{AreAt, numbered, trace_at}
use Rattle.gs_direct.proofs.Finishing.{all_closed, lent, numbers_left, run_left, seconds, still_run}
use Rattle.gs_direct.proofs.Loops.{all_begin}
use Rattle.gs_seats.specs.Rounds.{peer_no, seat_in, trace_of}
use Rattle.gs_rules.specs.Rounds.{Closing, moment_of}
use Rattle.gs_direct.proofs.Observing.{lives_traces}
use Rattle.gs_direct.specs.Stages.{HasShownLives}
use Rattle.gs_direct.proofs.Staging.{first_none, on_err, stages_same}
use Rattle.gs_direct.proofs.run.lives_of.Goals as goal

if_ok : {A E : Type 0} (r : Result A E) (P Q : A → Type 0) → ((x : A) → P x → Q x) → IfOk r P → IfOk r Q
if_ok (Ok x) P Q so h = so x h
if_ok (Err e) P Q so h = tt

pub run_all-requires-clause-begun : goal.run_all-requires-clause-begun
run_all-requires-clause-begun g c =
    subst (λ peers. AreAt c.args.plan.now 0 peers c.in_ok-post.post.mail.items) (sym c.deref_mut.ensures.value)
    (all_begin c.args.plan.now c.in_ok-peers.peers.items c.in_ok-post.post.mail.items c.in_ok-peers.ensures (search rules))

pub run_all-requires-clause-saw : goal.run_all-requires-clause-saw
run_all-requires-clause-saw g c = record { seen = trace_at c.deref_mut.result.now; told = tt; same = λ p. refl }

pub finish_all-requires-clause-running : goal.finish_all-requires-clause-running
finish_all-requires-clause-running g c =
    let plan = c.args.plan.now in
    let count = c.in_ok-peers.peers.len in
    let counted : count ≡ length plan.peers = search rules ∙ as_many (IsNewPeer plan) plan c.in_ok-peers.peers.items c.in_ok-peers.ensures in
    let news = c.run_all.new.peers in
    let e = c.in_ok-run_all.ensures.ended in
    subst (AllByRecursion (λ (peer : Peer _). peer.router.is_stopped ≡ false)) (sym (lent count news _ (all_closed plan e.olds news e.mail e.at_end e.closed ∙ sym counted)))
    (still_run plan e.olds news e.mail e.at_end e.closed)

pub returns-clause-numbers : goal.returns-clause-numbers
returns-clause-numbers g c =
    let plan = c.args.plan.now in
    let count = c.in_ok-peers.peers.len in
    let counted : count ≡ length plan.peers = search rules ∙ as_many (IsNewPeer plan) plan c.in_ok-peers.peers.items c.in_ok-peers.ensures in
    let news = c.run_all.new.peers in
    let e = c.in_ok-run_all.ensures.ended in
    let same = lent count news _ (all_closed plan e.olds news e.mail e.at_end e.closed ∙ sym counted) in
    if_ok c.finish_all.result _ _ (λ lives is. ap (map (λ (x : PeerNo × Finished). x.0)) (is ∙ ap (map (numbered plan)) same) ∙ numbers_left plan e.olds news e.mail e.at_end e.closed) c.finish_all.ensures

pub returns-clause-run : goal.returns-clause-run
returns-clause-run g c =
    let plan = c.args.plan.now in
    let count = c.in_ok-peers.peers.len in
    let counted : count ≡ length plan.peers = search rules ∙ as_many (IsNewPeer plan) plan c.in_ok-peers.peers.items c.in_ok-peers.ensures in
    let news = c.run_all.new.peers in
    let e = c.in_ok-run_all.ensures.ended in
    let same = lent count news _ (all_closed plan e.olds news e.mail e.at_end e.closed ∙ sym counted) in
    if_ok c.finish_all.result _ _ (λ lives is. subst (λ xs. IsRun plan (map (λ (x : PeerNo × Finished). x.1) xs)) (sym (is ∙ ap (map (numbered plan)) same)) (run_left plan e.olds news e.mail e.at_end e.closed)) c.finish_all.ensures

pub returns-clause-shown : goal.returns-clause-shown
returns-clause-shown g c =
    let plan = c.args.plan.now in
    let count = c.in_ok-peers.peers.len in
    let counted : count ≡ length plan.peers = search rules ∙ as_many (IsNewPeer plan) plan c.in_ok-peers.peers.items c.in_ok-peers.ensures in
    let news = c.run_all.new.peers in
    let e = c.in_ok-run_all.ensures.ended in
    let now = moment_of (seat_in plan (peer_no 0)) Closing in
    let same = lent count news _ (all_closed plan e.olds news e.mail e.at_end e.closed ∙ sym counted) in
    let (stages, shows, first, are) = c.in_ok-run_all.ensures.shown in
    if_ok c.finish_all.result _ _ (λ lives is.
    subst (λ xs. HasShownLives g.G.Gauge.has_shown c.args.gauge.now c.run_all.new.gauge plan (map (λ (x : PeerNo × Finished). x.1) xs)) (sym (is ∙ ap (map (numbered plan)) same))
    (record {
      stages = stages;
      shows = shows;
      first = first;
      are = stages_same plan (trace_at news) (trace_of (map (λ (x : PeerNo × Finished). x.1) (map (numbered plan) news)))
          (λ p. sym (lives_traces now news p ∙ ap (λ (lives : List Finished). trace_of lives p) (sym (seconds plan news)))) (suc plan.rounds) stages are;
    })) c.finish_all.ensures

pub returns-in_err-peers-clause-stopped : goal.returns-in_err-peers-clause-stopped
returns-in_err-peers-clause-stopped g c = on_err c.from_residual.result _ (first_none g.G.Gauge.has_shown c.args.gauge.now c.args.plan.now)

pub returns-in_err-post-clause-stopped : goal.returns-in_err-post-clause-stopped
returns-in_err-post-clause-stopped g c = on_err c.from_residual-in_err-post.result _ (first_none g.G.Gauge.has_shown c.args.gauge.now c.args.plan.now)

pub returns-in_err-run_all-clause-stopped : goal.returns-in_err-run_all-clause-stopped
returns-in_err-run_all-clause-stopped g c = on_err c.from_residual-in_err-run_all.result _ c.in_err-run_all.ensures.stopped

pub returns-clause-stopped : goal.returns-clause-stopped
returns-clause-stopped g c =
    let (stages, shows, first, are) = c.in_ok-run_all.ensures.shown in
    on_err c.finish_all.result _ (record { stages = stages; shows = shows; first = first })
