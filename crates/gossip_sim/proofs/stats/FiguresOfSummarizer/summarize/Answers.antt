use Rattle.std.proofs.Common.{◌∙◌, List, ap, ap₂, sym}
use Rattle.gs_base.specs.declared.names.PeerNo.{PeerNo}
use Rattle.gs_sheets.specs.declared.sheet.Sheet.{Sheet}
use Rattle.gs_direct.proofs.Staging.{first_none, on_err}
use Rattle.gs_figure_sheets.specs.declared.inquiry.Inquiry.{Inquiry}
use Rattle.gs_figure_sheets.specs.FigureSheets.{inquiry_of, sheets_of}
use Rattle.gs_figure_sheets.specs.Wishes.{Wishes}
use Rattle.gossip_sim.specs.StatsCommand.{written}
use Rattle.gossip_sim.proofs.stats.FiguresOfSummarizer.summarize.Goals as goal

pub returns-clause-text : goal.returns-clause-text
returns-clause-text g c =
    let plan = c.args.plan.now in
    let form = c.args.self.now.asked.form in
    let (report, run, are, shown) = c.in_ok-sheets.ensures.answers in
    record {
      report = report;
      run = run;
      is =
          c.in_ok-text.ensures
          ∙ ap (λ (sheets : List Sheet). written form sheets)
          (c.as_slice.ensures ∙ are ∙ ap (λ (q : Inquiry). sheets_of plan q report) (c.in_ok-inquiry.ensures ∙ ap₂ (λ (ps : List PeerNo) (w : Wishes). inquiry_of plan ps w) (sym run.numbers_are) c.in_ok-wanted.ensures));
    }

pub returns-clause-shown : goal.returns-clause-shown
returns-clause-shown g c =
    let (report, run, are, shown) = c.in_ok-sheets.ensures.answers in
    (report, run, shown)

pub returns-in_err-wanted-clause-stopped : goal.returns-in_err-wanted-clause-stopped
returns-in_err-wanted-clause-stopped g c = on_err c.from_residual.result _ (first_none g.G.Gauge.has_shown c.args.gauge.now c.args.plan.now)

pub returns-in_err-inquiry-clause-stopped : goal.returns-in_err-inquiry-clause-stopped
returns-in_err-inquiry-clause-stopped g c = on_err c.from_residual-in_err-inquiry.result _ (first_none g.G.Gauge.has_shown c.args.gauge.now c.args.plan.now)

pub returns-in_err-sheets-clause-stopped : goal.returns-in_err-sheets-clause-stopped
returns-in_err-sheets-clause-stopped g c = on_err c.from_residual-in_err-sheets.result _ c.in_err-sheets.ensures.stopped

pub returns-in_err-text-clause-stopped : goal.returns-in_err-text-clause-stopped
returns-in_err-text-clause-stopped g c =
    let (report, run, are, shown) = c.in_ok-sheets.ensures.answers in
    on_err c.from_residual-in_err-text.result _ (record { stages = shown.stages; shows = shown.shows; first = shown.first })
