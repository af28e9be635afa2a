-- Texts that are made while a run goes on.
use Rattle.std.specs.Prelude.{◌≡◌, ℕ, List}
use Rattle.gs_plan.specs.declared.plan.Plan.{Plan}
use Rattle.gs_report.specs.declared.report.Report.{Report}
use Rattle.gs_seats.specs.Reports.{IsReport}

-- the text about the report of a plan's run, where this is the text about a report
pub record IsSummary (text_of : Plan → Report → List ℕ) (plan : Plan) (text : List ℕ) : Type 0 where
  pub report : Report
  pub run : IsReport plan report
  pub is : text ≡ text_of plan report
