use Rattle.gs_wire.proofs.SentOn.{graft_fits}
use Rattle.gs_wire.proofs.laws.a_graft_fits_a_frame.Goals as goal

pub returns : goal.returns
returns c = graft_fits
