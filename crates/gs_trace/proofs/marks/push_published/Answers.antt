use Rattle.gs_trace.proofs.Appended.{last}
use Rattle.gs_trace.proofs.marks.push_published.Goals as goal

pub returns : goal.returns
returns c = last c.args.out.now.items _ _ _ _ c.in_ok-push_kind.ensures c.push_topic.ensures
