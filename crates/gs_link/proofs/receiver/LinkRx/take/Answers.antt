use Rattle.std.proofs.Common.{◌∙◌, sym}
use Rattle.gs_link.specs.declared.item.Item.TheVariants.{Piece, Round}
use Rattle.gs_link.proofs.KeepsRule.{pops, finds_empty}
use Rattle.gs_link.proofs.Views.{took-item, took-close}
use Rattle.gs_link.proofs.receiver.LinkRx.take.Goals as goal

pub pop_as-requires-clause-rule : goal.pop_as-requires-clause-rule
pop_as-requires-clause-rule g c = (pops _ _ c.self.invariant.1.0, finds_empty _ _ c.self.invariant.1.0)

pub invariant_of-self : goal.invariant_of-self
invariant_of-self g c =
    let q = c.pop_as.ensures.queue in
    let i = c.self.invariant in
    let w = c.in-Some-Piece in
    ((q.0 ∙ i.0.0, q.2 ∙ i.0.1), took-item _ _ _ (Piece w.bytes) _ w.field-0-is w.ensures.rule i.1)

pub invariant_of-self-in-Some-Round : goal.invariant_of-self-in-Some-Round
invariant_of-self-in-Some-Round g c =
    let q = c.pop_as.ensures.queue in
    let i = c.self.invariant in
    let w = c.in-Some-Round in
    ((q.0 ∙ i.0.0, q.2 ∙ i.0.1), took-item _ _ _ (Round w.round) _ w.field-0-is w.ensures.rule i.1)

pub invariant_of-self-in-Some-Close : goal.invariant_of-self-in-Some-Close
invariant_of-self-in-Some-Close g c =
    let q = c.pop_as.ensures.queue in
    let i = c.self.invariant in
    let w = c.in-Some-Close in
    ((q.0 ∙ i.0.0, q.2 ∙ i.0.1), took-close _ _ _ w.field-0-is w.ensures.rule)

pub returns-in-Some-Piece-clause-closed : goal.returns-in-Some-Piece-clause-closed
returns-in-Some-Piece-clause-closed g c =
    let w = c.in-Some-Piece in
    sym ((took-item _ _ _ (Piece w.bytes) _ w.field-0-is w.ensures.rule c.self.invariant.1).1 ∙ c.if-self.false)

pub returns-in-Some-Round-clause-closed : goal.returns-in-Some-Round-clause-closed
returns-in-Some-Round-clause-closed g c =
    let w = c.in-Some-Round in
    sym ((took-item _ _ _ (Round w.round) _ w.field-0-is w.ensures.rule c.self.invariant.1).1 ∙ c.if-self.false)

pub returns-in-Some-Close-clause-closed : goal.returns-in-Some-Close-clause-closed
returns-in-Some-Close-clause-closed g c =
    let w = c.in-Some-Close in sym (took-close _ _ _ w.field-0-is w.ensures.rule).1
