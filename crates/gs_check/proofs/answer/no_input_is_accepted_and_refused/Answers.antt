use Rattle.gs_check.proofs.Verdicts.{accepted_or_refused}
use Rattle.gs_check.proofs.answer.no_input_is_accepted_and_refused.Goals as goal

pub returns : goal.returns
returns c = accepted_or_refused
