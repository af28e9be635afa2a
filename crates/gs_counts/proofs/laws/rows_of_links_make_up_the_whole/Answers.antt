use Rattle.gs_counts.proofs.Whole.{links_whole}
use Rattle.gs_counts.proofs.laws.rows_of_links_make_up_the_whole.Goals as goal

pub returns : goal.returns
returns c = links_whole
