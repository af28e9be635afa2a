-- What the report of a run says.
use Rattle.std.specs.Prelude.{◌≡◌, ◌*◌, length, map}
use Rattle.gs_plan.specs.declared.plan.Plan.{Plan}
use Rattle.gs_report.specs.declared.report.Report.{Report}
use Rattle.gs_seats.specs.Rounds.{IsRun, numbers}

-- The report has each peer of the plan once, by number. What it has for these peers is what one run of the plan leaves. The
-- number of settled links is twice the number of dials.
pub record IsReport (plan : Plan) (report : Report) : Type 0 where
  pub numbers_are : map (λ x. x.0) report.peers.items ≡ numbers plan
  pub run : IsRun plan (map (λ x. x.1) report.peers.items)
  pub settled : report.settled ≡ 2 * length plan.dials
