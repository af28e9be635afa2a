use Rattle.gs_rules.specs.Scoring.{history, setting_of}
use Rattle.gs_router.proofs.tables.standings.Standings.missing.Goals as goal

pub returns : goal.returns
returns c = λ p L agrees. c.missing.ensures.value (setting_of p) (history p L) agrees
