use Rattle.gs_wire.proofs.FrameLists.{one_stream}
use Rattle.gs_wire.proofs.laws.a_stream_is_one.Goals as goal

pub returns : goal.returns
returns c = one_stream
