use Rattle.gs_counts.proofs.Whole.{peers_whole}
use Rattle.gs_counts.proofs.laws.rows_of_peers_make_up_the_whole.Goals as goal

pub returns : goal.returns
returns c = peers_whole
