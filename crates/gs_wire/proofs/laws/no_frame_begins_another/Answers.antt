use Rattle.gs_wire.proofs.RpcRoundTrip.{frames_apart}
use Rattle.gs_wire.proofs.laws.no_frame_begins_another.Goals as goal

pub returns : goal.returns
returns c = frames_apart
