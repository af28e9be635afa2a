use Rattle.gs_laws.proofs.Reports.{reports_one}
use Rattle.gs_laws.proofs.a_plan_has_one_report.Goals as goal

pub returns : goal.returns
returns c = reports_one
