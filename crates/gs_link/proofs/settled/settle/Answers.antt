use Rattle.std.proofs.Common.{rules, ap, sym, ◌∙◌}
use Rattle.crossbeam_queue.specs.Passes.{view as known}
use Rattle.gs_link.proofs.KeepsRule.{joins}
use Rattle.gs_link.proofs.Views.{settled}
use Rattle.gs_link.proofs.settled.settle.Goals as goal

pub absorb-requires-clause-rule : goal.absorb-requires-clause-rule
absorb-requires-clause-rule g c = joins _ _ _ _ (search rules) (search rules)

pub returns-clause-all : goal.returns-clause-all
returns-clause-all g c whole =
    let saw = c.len_as.ensures.rule.1 in
    ap (λ e. e.accepted) (sym c.tx.view_is)
    ∙ settled (known c.tx.inside.end) (known c.rx.inside.end) _ saw.0 c.absorb.ensures.rule saw.2 (c.rx.invariant.1.1 ∙ whole)
    ∙ ap (λ e. e.taken) c.rx.view_is
