use Rattle.std.proofs.Common.{◌∙◌}
use Rattle.crossbeam_queue.specs.Passes.{view as known}
use Rattle.gs_link.specs.Fields.{Sends}
use Rattle.gs_link.proofs.KeepsRule.{pushes, finds_full}
use Rattle.gs_link.proofs.Views.{carried-as, sent-item, sent-nothing}
use Rattle.gs_link.proofs.sender.LinkTx.send.Goals.{in-Ok, in-Err-Piece, in-Err-Round}
use Rattle.gs_link.proofs.sender.LinkTx.send.Goals as goal

pub push_as-requires-clause-rule : goal.push_as-requires-clause-rule
push_as-requires-clause-rule g c =
    let i = c.self.invariant.1 in
    (pushes _ _ _ _ i.0 (i.1 ∙ c.if-self.false) (carried-as _ _ c.of.ensures c.requires.size), finds_full _ _ i.0)

pub invariant_of-self : goal.invariant_of-self
invariant_of-self g c =
    let q = c.push_as.ensures.queue in
    let i = c.self.invariant in
    let now : Sends (known c.push_as.new.pass) c.self.inside.closed = elim c.match-push_as.branch [
      | in-Ok w ↦ sent-item _ _ _ _ _ c.of.ensures w.in-Ok.ensures.rule i.1
      | in-Err-Piece w ↦ sent-nothing _ _ _ w.in-Err-Piece.ensures.rule.1 i.1
      | in-Err-Round w ↦ sent-nothing _ _ _ w.in-Err-Round.ensures.rule.1 i.1
    ] in
    ((q.0 ∙ i.0.0, q.2 ∙ i.0.1), now)
