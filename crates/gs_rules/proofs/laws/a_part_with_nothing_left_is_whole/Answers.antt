use Rattle.gs_rules.proofs.Handled.{part_is_whole}
use Rattle.gs_rules.proofs.laws.a_part_with_nothing_left_is_whole.Goals as goal

pub returns : goal.returns
returns c = part_is_whole
