use Rattle.gs_score.proofs.Stepping.{held-later}
use Rattle.gs_score.proofs.laws.a_standing_decays_by_its_counters.Goals as goal

pub returns : goal.returns
returns c = held-later
