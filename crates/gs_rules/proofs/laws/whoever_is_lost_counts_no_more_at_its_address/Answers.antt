use Rattle.gs_rules.proofs.Lost.{counts_while_up}
use Rattle.gs_rules.proofs.laws.whoever_is_lost_counts_no_more_at_its_address.Goals as goal

pub returns : goal.returns
returns c = counts_while_up
