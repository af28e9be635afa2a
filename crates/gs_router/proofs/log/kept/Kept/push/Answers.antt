use Rattle.std.proofs.Common.{◌∙◌, ap, sym}
use Rattle.gs_router.specs.Log.{ends_round}
use Rattle.gs_router.proofs.log.kept.Kept.push.Goals as goal

pub returns-then-self-clause-ok : goal.returns-then-self-clause-ok
returns-then-self-clause-ok g c = λ L h. c.in_ok-begin.ensures.ok L (sym h.over ∙ c.if-self.true) h c.ends_round-ends.result (c.ends_round-ends.ensures ∙ ap ends_round c.event.ensures)
