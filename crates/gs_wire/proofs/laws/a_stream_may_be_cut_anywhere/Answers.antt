use Rattle.gs_wire.proofs.FrameLists.{found_in_all}
use Rattle.gs_wire.proofs.laws.a_stream_may_be_cut_anywhere.Goals as goal

pub returns : goal.returns
returns c = found_in_all
