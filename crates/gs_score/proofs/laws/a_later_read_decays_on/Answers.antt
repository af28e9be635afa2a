use Rattle.gs_score.proofs.Decaying.{read-later}
use Rattle.gs_score.proofs.laws.a_later_read_decays_on.Goals as goal

pub returns : goal.returns
returns c = read-later
