use Rattle.gs_wire.proofs.SentOn.{request_fits}
use Rattle.gs_wire.proofs.laws.a_request_fits_a_frame.Goals as goal

pub returns : goal.returns
returns c = request_fits
