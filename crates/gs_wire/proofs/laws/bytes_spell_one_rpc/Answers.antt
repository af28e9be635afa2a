use Rattle.gs_wire.proofs.Rpcs.{one_rpc}
use Rattle.gs_wire.proofs.laws.bytes_spell_one_rpc.Goals as goal

pub returns : goal.returns
returns c = one_rpc
