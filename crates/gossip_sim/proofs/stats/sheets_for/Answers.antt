use Rattle.std.proofs.Common.{◌∙◌, [], length, ap, ap₂, sym, subst, subst₂}
use Rattle.gs_plan.specs.declared.plan.Plan.{Plan}
use Rattle.gs_plan.specs.Plans.{IsInRange}
use Rattle.gs_report.specs.Seen.{AreLives}
use Rattle.gs_direct.proofs.Staging.{first_none, on_err}
use Rattle.gs_figure_sheets.specs.declared.inquiry.Inquiry.{Inquiry}
use Rattle.gs_figure_sheets.specs.FigureSheets.{sheets_of}
use Rattle.gs_figure_sheets.specs.Gathering.{HasGathered}
use Rattle.gossip_sim.proofs.stats.sheets_for.Goals as goal

pub run_observed-requires-clause-new : goal.run_observed-requires-clause-new
run_observed-requires-clause-new g c =
    let gathering = c.in_ok-gathering.gathering in
    let (plan_is, inquiry_is) = c.in_ok-gathering.ensures.question in
    subst₂ (λ (plan : Plan) (q : Inquiry). HasGathered plan q gathering (λ p. [])) (sym plan_is) (sym inquiry_is) c.in_ok-gathering.ensures.gathered

pub sheets-requires-clause-range : goal.sheets-requires-clause-range
sheets-requires-clause-range g c =
    let (plan_is, inquiry_is) = c.in_ok-gathering.ensures.question in
    subst IsInRange (sym (ap (λ (x : Plan × Inquiry). x.0) c.in-Ok.ensures.question ∙ plan_is)) c.requires

pub sheets-requires-clause-gathered : goal.sheets-requires-clause-gathered
sheets-requires-clause-gathered g c =
    let (report, run, seen, are, shown) = c.in-Ok.ensures.run in
    (seen.traces, seen.told)

pub returns-in_ok-sheets-in-Ok-clause-answers : goal.returns-in_ok-sheets-in-Ok-clause-answers
returns-in_ok-sheets-in-Ok-clause-answers g c =
    let (report, run, seen, are, shown) = c.in-Ok.ensures.run in
    let (plan_is, inquiry_is) = c.in_ok-gathering.ensures.question in
    let same_plan = ap (λ (x : Plan × Inquiry). x.0) c.in-Ok.ensures.question ∙ plan_is in
    let same_inquiry = ap (λ (x : Plan × Inquiry). x.1) c.in-Ok.ensures.question ∙ inquiry_is in (
      report,
      run,
      c.in_ok-sheets-in-Ok.ensures seen.traces report seen.told (subst (λ (plan : Plan). AreLives (length plan.peers) seen.traces report.peers.items) (sym same_plan) seen.lives) (sym are)
          ∙ ap₂ (λ (plan : Plan) (q : Inquiry). sheets_of plan q report) same_plan same_inquiry,
      shown,
    )

pub returns-in_err-gathering-clause-stopped : goal.returns-in_err-gathering-clause-stopped
returns-in_err-gathering-clause-stopped g c = on_err c.from_residual.result _ (first_none g.G.Gauge.has_shown c.args.gauge.now c.args.plan.now)

pub returns-in_err-sheets-in-Ok-clause-stopped : goal.returns-in_err-sheets-in-Ok-clause-stopped
returns-in_err-sheets-in-Ok-clause-stopped g c =
    let (report, run, seen, are, shown) = c.in-Ok.ensures.run in
    on_err c.from_residual-in_err-sheets-in-Ok.result _ (record { stages = shown.stages; shows = shown.shows; first = shown.first })

pub returns-in-Err-clause-stopped : goal.returns-in-Err-clause-stopped
returns-in-Err-clause-stopped g c = c.in-Err.ensures.stopped
