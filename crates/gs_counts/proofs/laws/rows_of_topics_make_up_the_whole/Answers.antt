use Rattle.gs_counts.proofs.ByTopic.{none_are_on_none, topics_whole}
use Rattle.gs_counts.proofs.laws.rows_of_topics_make_up_the_whole.Goals as goal

pub returns-clause-whole : goal.returns-clause-whole
returns-clause-whole c = topics_whole

pub returns-clause-none : goal.returns-clause-none
returns-clause-none c = none_are_on_none
