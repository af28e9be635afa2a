use Rattle.gs_reach.proofs.Counted.{reached_more}
use Rattle.gs_reach.proofs.laws.more_rounds_reach_no_less.Goals as goal

pub returns : goal.returns
returns c = λ pairs few many le. reached_more pairs few many le
