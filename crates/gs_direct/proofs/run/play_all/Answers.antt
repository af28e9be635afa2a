use Rattle.std.proofs.Common.{◌≡◌, ◌<◌, ◌∙◌, ◌+◌, ◌++◌, [], ◌∷◌, suc, length, map, refl, subst, rules, arith}
use Rattle.gs_seats.proofs.ByNumber.{as_many}
use Rattle.gs_seats.specs.Rounds.{numbers}
use Rattle.std.specs.List.{range_with_len}
use Rattle.gs_direct.specs.Runs.{AreAt, IsAt, trace_at}
use Rattle.gs_direct.specs.Stages.{AreStages}
use Rattle.gs_direct.specs.declared.stages.Stage.{Stage}
use Rattle.gs_direct.proofs.Observing.{rounds_order}
use Rattle.gs_direct.proofs.Staging.{count_begins, first_stages, on_err, one_stage, saturated_since, shows_more, shows_none, stages_grow, stages_more}
use Rattle.gs_direct.proofs.run.play_all.Goals as goal

pub observe-requires-clause-many : goal.observe-requires-clause-many
observe-requires-clause-many g c =
    as_many (IsAt c.args.plan.now (suc c.loop-round.round) c.play_round.new.peers) c.args.plan.now c.play_round.new.peers c.in_ok-play_round.ensures.after.each

pub observe-requires-clause-order : goal.observe-requires-clause-order
observe-requires-clause-order g c =
    let plan = c.args.plan.now in
    let peers = c.play_round.new.peers in
    rounds_order plan (suc c.loop-round.round) peers (numbers plan) peers c.in_ok-play_round.ensures.after.each

pub observe-requires-clause-saw : goal.observe-requires-clause-saw
observe-requires-clause-saw g c = (trace_at c.loop-round.peers, c.loop-round.invariant.saw, c.in_ok-play_round.ensures.grown)

pub loop-round-init : goal.loop-round-init
loop-round-init g c = record {
  at = c.requires.begun;
  room = c.requires.next;
  saw = c.requires.saw;
  question = refl;
  count = count_begins c.args.plan.now c.args.peers.now c.requires.begun.each;
  stages = [];
  shows = shows_none g.G.Gauge.has_shown c.args.gauge.now;
  are = tt;
}

pub loop-round-preserved : goal.loop-round-preserved
loop-round-preserved g c =
    let plan = c.args.plan.now in
    let h = c.loop-round.invariant in
    let r = c.loop-round.round in
    let peers = c.play_round.new.peers in
    let after = c.in_ok-play_round.ensures.after in
    let grown = c.in_ok-play_round.ensures.grown in
    let next : suc r ≡ r + 1 = omega arith in
    let stage : Stage = record { round = r; deliveries = c.delivered_by_now-deliveries.result } in
    let count = saturated_since (length plan.peers) (trace_at c.loop-round.peers) (trace_at peers) c.loop-round.deliveries c.delivered_by_now-deliveries.result grown h.count c.delivered_by_now-deliveries.ensures in
    record {
      at = subst (λ n. AreAt plan n peers c.play_round.new.post.mail.items) next after;
      room = c.in_ok-play_round.ensures.next;
      saw = c.in_ok-observe.ensures.saw;
      question = c.in_ok-observe.ensures.question ∙ h.question;
      count = count;
      stages = h.stages ++ stage ∷ [];
      shows = shows_more g.G.Gauge.has_shown c.args.gauge.now c.loop-round.gauge c.show.new.self h.stages stage h.shows c.show.ensures;
      are = subst (λ n. AreStages plan (trace_at peers) n (h.stages ++ stage ∷ [])) next
          (stages_more plan (trace_at peers) r h.stages stage (stages_grow plan (trace_at c.loop-round.peers) (trace_at peers) grown r h.stages h.are)
          (one_stage plan r peers stage after.each refl count));
    }

pub returns-in_err-play_round-clause-stopped : goal.returns-in_err-play_round-clause-stopped
returns-in_err-play_round-clause-stopped g c =
    let h = c.loop-round.invariant in
    let below : c.loop-round.round < c.args.plan.now.rounds + 1 = search rules in
    on_err c.from_residual.result _ (record {
      stages = h.stages;
      shows = h.shows;
      first = first_stages c.args.plan.now c.loop-round.round c.loop-round.peers h.stages (omega (arith, below)) h.at.each h.are;
    })

pub returns-in_err-observe-clause-stopped : goal.returns-in_err-observe-clause-stopped
returns-in_err-observe-clause-stopped g c =
    let h = c.loop-round.invariant in
    let below : c.loop-round.round < c.args.plan.now.rounds + 1 = search rules in
    on_err c.from_residual-in_err-observe.result _ (record {
      stages = h.stages;
      shows = h.shows;
      first = first_stages c.args.plan.now c.loop-round.round c.loop-round.peers h.stages (omega (arith, below)) h.at.each h.are;
    })

pub returns-clause-shown : goal.returns-clause-shown
returns-clause-shown g c =
    let h = c.loop-round.invariant in
    let ends : c.loop-round.round ≡ suc c.args.plan.now.rounds = search rules in (
      h.stages,
      h.shows,
      first_stages c.args.plan.now c.loop-round.round c.loop-round.peers h.stages (omega (arith, ends)) h.at.each h.are,
      subst (λ n. AreStages c.args.plan.now (trace_at c.loop-round.peers) n h.stages) ends h.are,
    )

pub delivered_by_now-deliveries-requires-clause-many : goal.delivered_by_now-deliveries-requires-clause-many
delivered_by_now-deliveries-requires-clause-many g c =
    as_many (IsAt c.args.plan.now (suc c.loop-round.round) c.play_round.new.peers) c.args.plan.now c.play_round.new.peers c.in_ok-play_round.ensures.after.each

pub returns-clause-played : goal.returns-clause-played
returns-clause-played g c =
    let ends : c.loop-round.round ≡ suc c.args.plan.now.rounds = search rules in
    subst (λ n. AreAt c.args.plan.now n c.loop-round.peers c.loop-round.post.mail.items) ends c.loop-round.invariant.at
