use Rattle.gs_wire.proofs.RpcRoundTrip.{body_spelled}
use Rattle.gs_wire.proofs.laws.a_body_spells_its_rpc.Goals as goal

pub returns : goal.returns
returns c = body_spelled
