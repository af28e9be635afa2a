use Rattle.gs_wire.proofs.SentOn.{offer_fits}
use Rattle.gs_wire.proofs.laws.an_offer_fits_a_frame.Goals as goal

pub returns : goal.returns
returns c = offer_fits
