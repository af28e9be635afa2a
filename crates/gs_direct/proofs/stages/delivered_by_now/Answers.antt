use Rattle.std.proofs.Common.{rules, ◌≡◌, ◌<◌, ◌+◌, ◌∙◌, ℕ, Some, get_or, length, sym, ap, ap₂, arith}
use Rattle.std.specs.Prelude.{slice_get}
use Rattle.std.proofs.lemmas.Option.{slice_get-get_or}
use Rattle.gs_base.specs.declared.names.PeerNo.{PeerNo}
use Rattle.gs_rules.specs.Tables.{Entries}
use Rattle.gs_router.specs.Log.{this_round}
use Rattle.gs_seats.specs.Rounds.{peer_no}
use Rattle.gs_direct.specs.Runs.{trace_at}
use Rattle.gs_direct.specs.Stages.{delivered_in, delivered_to, saturated}
use Rattle.gs_direct.proofs.Staging.{delivered_in_reverse, delivered_to_more, saturated_both}
use Rattle.gs_direct.proofs.Turning.{trace_is}
use Rattle.gs_direct.proofs.stages.delivered_by_now.Goals as goal

pub bounds-peers-from : goal.bounds-peers-from
bounds-peers-from g c =
    let below : c.loop-number.number < length c.args.plan.now.peers = search rules in
    omega (arith, c.from.ensures, c.requires.many, below)

pub loop-number-preserved : goal.loop-number-preserved
loop-number-preserved g c =
    let n : ℕ = c.loop-number.number in
    let peers = c.args.peers.now in
    let rounds : PeerNo → Entries = λ p. this_round (trace_at peers p) in
    let below : n < length c.args.plan.now.peers = search rules in
    let index : ℕ = c.from.result in
    let peer = get_or peers index c.index-peers-from.result in
    let there : slice_get peers n ≡ Some peer = ap (slice_get peers) (sym c.from.ensures) ∙ slice_get-get_or peers index c.index-peers-from.result (omega (arith, c.from.ensures, c.requires.many, below)) in
    let here = trace_is peers (peer_no n) peer there in
    let of_round : c.delivered_in.result ≡ saturated (delivered_in (rounds (peer_no n))) =
    c.delivered_in.ensures
    ∙ ap saturated (ap delivered_in c.round-round.ensures ∙ delivered_in_reverse (this_round peer.router.trace) ∙ ap (λ (L : Entries). delivered_in (this_round L)) (sym here)) in
    c.saturating_add-all.ensures
    ∙ ap₂ (λ (a b : ℕ). saturated (a + b)) c.loop-number.invariant of_round
    ∙ saturated_both (c.args.before + delivered_to n rounds) (delivered_in (rounds (peer_no n)))
    ∙ ap saturated (omega (arith, delivered_to_more n rounds))
