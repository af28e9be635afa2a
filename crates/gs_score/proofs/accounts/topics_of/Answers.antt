use Rattle.std.proofs.Common.{sym, subst}
use Rattle.std.specs.List.{IsDistinct}
use Rattle.gs_base.specs.Names.{same_topic}
use Rattle.gs_score.proofs.Naming.{distinct_none}
use Rattle.gs_score.proofs.accounts.topics_of.Goals as goal

pub returns-in-None-clause-distinct : goal.returns-in-None-clause-distinct
returns-in-None-clause-distinct c = subst (IsDistinct same_topic) (sym c.new.ensures.items) distinct_none
