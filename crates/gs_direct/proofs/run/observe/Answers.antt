use Rattle.std.proofs.Common.{rules, ◌≡◌, ◌<◌, ◌+◌, ◌∙◌, ℕ, Some, get_or, length, reverse, refl, sym, ap, subst, arith}
use Rattle.std.specs.Prelude.{slice_get}
use Rattle.std.proofs.lemmas.Option.{slice_get-get_or}
use Rattle.gs_base.specs.declared.names.PeerNo.{PeerNo}
use Rattle.gs_rules.specs.Tables.{Entries}
use Rattle.gs_router.specs.Following.{AreInOrder}
use Rattle.gs_router.specs.Log.{this_round}
use Rattle.gs_seats.specs.Rounds.{peer_no}
use Rattle.gs_direct.specs.Observing.{shown}
use Rattle.gs_direct.specs.Runs.{trace_at}
use Rattle.gs_direct.proofs.Observing.{all_shown, none_past, none_shown, one_of, one_shown, round_whole}
use Rattle.gs_direct.proofs.Turning.{trace_is}
use Rattle.gs_direct.proofs.run.observe.Goals as goal

pub loop-number-init : goal.loop-number-init
loop-number-init g c =
    let (before, seen, grown) = c.requires.saw in
    (before, grown, none_shown (g.O.Observer.saw c.args.observer.now) before (trace_at c.args.peers.now) seen, refl)

pub bounds-peers-from : goal.bounds-peers-from
bounds-peers-from g c =
    let below : c.loop-number.number < length c.args.plan.now.peers = search rules in
    omega (arith, c.from.ensures, c.requires.many, below)

pub see-requires : goal.see-requires
see-requires g c =
    let n : ℕ = c.loop-number.number in
    let peers = c.args.peers.now in
    let (before, grown, h, same) = c.loop-number.invariant in
    let below : n < length c.args.plan.now.peers = search rules in
    let index : ℕ = c.from.result in
    let peer = get_or peers index c.index-peers-from.result in
    let there : slice_get peers n ≡ Some peer = ap (slice_get peers) (sym c.from.ensures) ∙ slice_get-get_or peers index c.index-peers-from.result (omega (arith, c.from.ensures, c.requires.many, below)) in
    let here = trace_is peers (peer_no n) peer there in
    let entries = c.round-round.ensures ∙ ap (λ (L : Entries). reverse (this_round L)) (sym here) in
    let whole = round_whole n before (trace_at peers) h.seen c.round-round.result.now grown entries h.same ∙ here in
    (h.seen, h.told, subst AreInOrder (sym whole) (one_of (λ x. AreInOrder x.router.trace) peers n peer there c.requires.order))

pub loop-number-preserved : goal.loop-number-preserved
loop-number-preserved g c =
    let n : ℕ = c.loop-number.number in
    let peers = c.args.peers.now in
    let (before, grown, h, same) = c.loop-number.invariant in
    let below : n < length c.args.plan.now.peers = search rules in
    let later : PeerNo → Entries = shown (n + 1) before (trace_at peers) in
    let index : ℕ = c.from.result in
    let peer = get_or peers index c.index-peers-from.result in
    let there : slice_get peers n ≡ Some peer = ap (slice_get peers) (sym c.from.ensures) ∙ slice_get-get_or peers index c.index-peers-from.result (omega (arith, c.from.ensures, c.requires.many, below)) in
    let here = trace_is peers (peer_no n) peer there in
    let entries = c.round-round.ensures ∙ ap (λ (L : Entries). reverse (this_round L)) (sym here) in
    let whole = round_whole n before (trace_at peers) h.seen c.round-round.result.now grown entries h.same ∙ here in
    let order = subst AreInOrder (sym whole) (one_of (λ x. AreInOrder x.router.trace) peers n peer there c.requires.order) in (
      before,
      grown,
      record {
        seen = later;
        told = c.in_ok-see.ensures.saw h.seen later (one_shown n before (trace_at peers) h.seen c.round-round.result.now grown entries h.same) order h.told;
        same = λ p. refl;
      },
      c.in_ok-see.ensures.question ∙ same,
    )

pub returns-clause-question : goal.returns-clause-question
returns-clause-question g c =
    let (before, grown, h, same) = c.loop-number.invariant in
    same

pub returns-clause-saw : goal.returns-clause-saw
returns-clause-saw g c =
    let peers = c.args.peers.now in
    let (before, grown, h, same) = c.loop-number.invariant in
    let ends : c.loop-number.number ≡ length c.args.plan.now.peers = search rules in
    all_shown (g.O.Observer.saw c.loop-number.observer) c.loop-number.number before (trace_at peers) grown (λ p above. none_past peers p (omega (arith, above, ends, c.requires.many))) h
