use Rattle.gs_laws.proofs.Traces.{traces_one}
use Rattle.gs_laws.proofs.a_plan_has_one_list_of_traces.Goals as goal

pub returns : goal.returns
returns c = traces_one
