use Rattle.gs_score.proofs.NoWeight.{under_none}
use Rattle.gs_score.proofs.standing.Standing.weighed_square.Goals as goal

pub returns-then-weight-eq0-clause-value : goal.returns-then-weight-eq0-clause-value
returns-then-weight-eq0-clause-value c = under_none c.args.weight _ c.ranges.weight c.if-weight-eq0.true
