use Rattle.gs_direct.specs.Runs.{trace_at}
use Rattle.gs_direct.proofs.Closing.{grown}
use Rattle.gs_direct.proofs.Finishing.{all_closed, in_order}
use Rattle.gs_direct.proofs.Staging.{on_err, stages_grow}
use Rattle.std.proofs.Common.{suc}
use Rattle.gs_direct.proofs.run.run_all.Goals as goal

pub observe-requires-clause-many : goal.observe-requires-clause-many
observe-requires-clause-many g c =
    all_closed c.args.plan.now c.play_all.new.peers c.close_all.new.peers c.play_all.new.post.mail.items c.in_ok-play_all.ensures.played c.in_ok-close_all.ensures

pub observe-requires-clause-order : goal.observe-requires-clause-order
observe-requires-clause-order g c =
    in_order c.args.plan.now c.play_all.new.peers c.close_all.new.peers c.play_all.new.post.mail.items c.in_ok-play_all.ensures.played c.in_ok-close_all.ensures

pub observe-requires-clause-saw : goal.observe-requires-clause-saw
observe-requires-clause-saw g c =
    (trace_at c.play_all.new.peers, c.in_ok-play_all.ensures.saw, grown c.args.plan.now c.play_all.new.peers c.close_all.new.peers c.play_all.new.post.mail.items c.in_ok-play_all.ensures.played c.in_ok-close_all.ensures)

pub returns-clause-ended : goal.returns-clause-ended
returns-clause-ended g c = record { olds = c.play_all.new.peers; mail = c.play_all.new.post.mail.items; at_end = c.in_ok-play_all.ensures.played; closed = c.in_ok-close_all.ensures }

pub returns-in_err-play_all-clause-stopped : goal.returns-in_err-play_all-clause-stopped
returns-in_err-play_all-clause-stopped g c = on_err c.from_residual.result _ c.in_err-play_all.ensures.stopped

pub returns-in_err-close_all-clause-stopped : goal.returns-in_err-close_all-clause-stopped
returns-in_err-close_all-clause-stopped g c =
    let (stages, shows, first, are) = c.in_ok-play_all.ensures.shown in
    on_err c.from_residual-in_err-close_all.result _ (record { stages = stages; shows = shows; first = first })

pub returns-in_err-observe-clause-stopped : goal.returns-in_err-observe-clause-stopped
returns-in_err-observe-clause-stopped g c =
    let (stages, shows, first, are) = c.in_ok-play_all.ensures.shown in
    on_err c.from_residual-in_err-observe.result _ (record { stages = stages; shows = shows; first = first })

pub returns-clause-shown : goal.returns-clause-shown
returns-clause-shown g c =
    let plan = c.args.plan.now in
    let (stages, shows, first, are) = c.in_ok-play_all.ensures.shown in (
      stages,
      shows,
      first,
      stages_grow plan (trace_at c.play_all.new.peers) (trace_at c.close_all.new.peers)
          (grown plan c.play_all.new.peers c.close_all.new.peers c.play_all.new.post.mail.items c.in_ok-play_all.ensures.played c.in_ok-close_all.ensures) (suc plan.rounds) stages are,
    )
