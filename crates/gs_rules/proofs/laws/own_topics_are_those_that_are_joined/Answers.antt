use Rattle.gs_rules.proofs.Topics.{own_are_joined, own_ascend}
use Rattle.gs_rules.proofs.laws.own_topics_are_those_that_are_joined.Goals as goal

pub returns-clause-joined : goal.returns-clause-joined
returns-clause-joined c = own_are_joined

pub returns-clause-ascend : goal.returns-clause-ascend
returns-clause-ascend c = own_ascend
