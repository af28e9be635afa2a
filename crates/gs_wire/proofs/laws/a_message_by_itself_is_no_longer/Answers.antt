use Rattle.gs_wire.proofs.SentOn.{passed_on_shorter}
use Rattle.gs_wire.proofs.laws.a_message_by_itself_is_no_longer.Goals as goal

pub returns : goal.returns
returns c = passed_on_shorter
