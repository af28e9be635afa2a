use Rattle.gs_laws.proofs.Scenarios.{texts_one}
use Rattle.gs_laws.proofs.a_scenario_has_one_report.Goals as goal

pub returns : goal.returns
returns c = texts_one
