use Rattle.gs_wire.proofs.Shorter.{stream_fits}
use Rattle.gs_wire.proofs.laws.what_was_read_fits_a_frame.Goals as goal

pub returns : goal.returns
returns c = stream_fits
