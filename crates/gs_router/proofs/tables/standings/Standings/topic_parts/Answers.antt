use Rattle.gs_rules.specs.Scored.{parts_on_topic}
use Rattle.gs_rules.specs.Scoring.{history, setting_of}
use Rattle.gs_router.proofs.tables.standings.Standings.topic_parts.Goals as goal

pub returns : goal.returns
unfolding parts_on_topic
returns c = λ p L agrees. c.topic_parts.ensures (setting_of p) (history p L) agrees
