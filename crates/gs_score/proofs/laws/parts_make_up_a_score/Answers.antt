use Rattle.std.proofs.Common.{refl}
use Rattle.gs_score.specs.Formula.{score_of, topic_part}
use Rattle.gs_score.proofs.laws.parts_make_up_a_score.Goals as goal

pub returns-clause-topic : goal.returns-clause-topic
unfolding topic_part
returns-clause-topic c = λ r now h. refl

pub returns-clause-score : goal.returns-clause-score
unfolding score_of
returns-clause-score c = λ s now H q ts. refl
