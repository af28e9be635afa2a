use Rattle.gs_counts.proofs.Ruled.{by_the_rule}
use Rattle.gs_counts.proofs.laws.fates_are_those_of_the_rule.Goals as goal

pub returns : goal.returns
returns c = λ p L at q m. by_the_rule p L at q m
