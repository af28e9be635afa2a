use Rattle.gs_counts.proofs.Whole.{rounds_whole}
use Rattle.gs_counts.proofs.laws.rows_of_rounds_make_up_the_whole.Goals as goal

pub returns : goal.returns
returns c = rounds_whole
