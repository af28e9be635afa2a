use Rattle.gs_score.proofs.Naming.{named_covers}
use Rattle.gs_score.proofs.laws.named_topics_leave_none_out.Goals as goal

pub returns : goal.returns
returns c = named_covers
