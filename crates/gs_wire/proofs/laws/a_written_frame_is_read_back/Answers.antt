use Rattle.gs_wire.proofs.FrameLists.{frame_read}
use Rattle.gs_wire.proofs.laws.a_written_frame_is_read_back.Goals as goal

pub returns : goal.returns
returns c = frame_read
