use Rattle.std.proofs.Common.{rules}
use Rattle.gs_base.specs.Names.{message_id}
use Rattle.gs_base.proofs.names.MsgId.of.Goals as goal

pub returns : goal.returns
unfolding message_id
returns c = search rules
