use Rattle.gs_rules.proofs.Handled.{said_is_handled}
use Rattle.gs_rules.proofs.laws.what_was_said_is_handled.Goals as goal

pub returns : goal.returns
returns c = said_is_handled
