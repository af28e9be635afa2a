use Rattle.gs_figure_sheets.specs.Gathering.{inquiry_in, plan_gathered}
use Rattle.gs_figure_sheets.proofs.Gathered.{on_ok}
use Rattle.gs_figure_sheets.proofs.gathering.GatheringObserver.see.Goals as goal

pub returns-clause-saw : goal.returns-clause-saw
returns-clause-saw c =
    let plan = plan_gathered c.args.self.now in
    let q = inquiry_in c.args.self.now in
    on_ok c.see-2.result _ _ (λ more before after grown order h. record {
      counted = c.in_ok-see.ensures plan q.among before after grown h.counted;
      parts = more plan q before after grown order h.parts;
    }) c.see-2.ensures
