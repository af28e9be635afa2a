use Rattle.gs_score.proofs.Fitting.{room_fits}
use Rattle.gs_score.proofs.laws.there_is_room_for_what_fits_a_list.Goals as goal

pub returns : goal.returns
returns c = room_fits
