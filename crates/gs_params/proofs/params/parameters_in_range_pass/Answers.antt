use Rattle.gs_params.proofs.InRange.{is_checked}
use Rattle.gs_params.proofs.params.parameters_in_range_pass.Goals as goal

pub returns : goal.returns
returns c = is_checked
