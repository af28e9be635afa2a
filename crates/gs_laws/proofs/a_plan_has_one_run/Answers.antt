use Rattle.gs_laws.proofs.Runs.{runs_one}
use Rattle.gs_laws.proofs.a_plan_has_one_run.Goals as goal

pub returns : goal.returns
returns c = runs_one
