use Rattle.std.proofs.Common.{◌∙◌}
use Rattle.gs_link.proofs.KeepsRule.{pushes, finds_full}
use Rattle.gs_link.proofs.Views.{sent-close}
use Rattle.gs_link.proofs.sender.LinkTx.close.Goals as goal

pub push_as-requires-clause-rule : goal.push_as-requires-clause-rule
push_as-requires-clause-rule g c =
    let i = c.self.invariant in (pushes _ _ _ _ i.1.0 (i.1.1 ∙ c.if-self.false) tt, finds_full _ _ i.1.0)

pub invariant_of-self : goal.invariant_of-self
invariant_of-self g c =
    let q = c.push_as.ensures.queue in
    let i = c.self.invariant in
    ((q.0 ∙ i.0.0, q.2 ∙ i.0.1), sent-close _ _ c.in-Ok.ensures.rule)
