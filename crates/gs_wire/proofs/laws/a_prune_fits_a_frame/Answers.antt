use Rattle.gs_wire.proofs.SentOn.{prune_fits}
use Rattle.gs_wire.proofs.laws.a_prune_fits_a_frame.Goals as goal

pub returns : goal.returns
returns c = prune_fits
