use Rattle.gs_rules.proofs.Spelled.{sent_is_spelled}
use Rattle.gs_rules.proofs.laws.what_is_sent_is_spelled.Goals as goal

pub returns : goal.returns
returns c = sent_is_spelled
