use Rattle.gs_direct.proofs.Observing.{seen_report}
use Rattle.gs_direct.specs.Stages.{HasShownLives}
use Rattle.gs_direct.proofs.run.run_observed.Goals as goal

pub returns-in-Ok-clause-run : goal.returns-in-Ok-clause-run
returns-in-Ok-clause-run g c =
    let (lives, by_number, run, seen, are, shown) = c.in-Ok.ensures.run in
    seen_report (g.O.Observer.saw c.remains_seen.new.observer) (HasShownLives g.G.Gauge.has_shown c.args.gauge.now c.remains_seen.new.gauge c.args.plan.now) c.args.plan.now c.in-Ok.remains lives by_number run seen are shown
