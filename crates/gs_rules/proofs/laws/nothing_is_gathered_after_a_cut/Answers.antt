use Rattle.gs_rules.proofs.Gathered.{gathered_after_rounds, gathered_cut, gathered_down}
use Rattle.gs_rules.proofs.laws.nothing_is_gathered_after_a_cut.Goals as goal

pub returns-clause-cut : goal.returns-clause-cut
returns-clause-cut c = gathered_cut

pub returns-clause-down : goal.returns-clause-down
returns-clause-down c = gathered_down

pub returns-clause-rounds : goal.returns-clause-rounds
returns-clause-rounds c = gathered_after_rounds
