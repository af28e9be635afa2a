use Rattle.gs_trace.proofs.Wanting.{wanting_all}
use Rattle.gs_trace.proofs.laws.wanting_all_tells_all.Goals as goal

pub returns : goal.returns
returns c = wanting_all
