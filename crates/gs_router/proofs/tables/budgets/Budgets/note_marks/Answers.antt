use Rattle.std.proofs.Common.{arith}
use Rattle.std.proofs.lemmas.List.{drop_all}
use Rattle.gs_router.proofs.Spending.{spent_all}
use Rattle.gs_router.proofs.tables.budgets.Budgets.note_marks.Goals as goal

pub returns-clause-agrees : goal.returns-clause-agrees
returns-clause-agrees c = λ L.
    let marks = c.marks-mark-items.result.now in
    spent_all c.args.self.now c.loop-mark.self c.args.entry.now L marks _ c.marks-mark-items.ensures (drop_all c.loop-mark.mark-index marks (omega (arith, c.loop-mark-test.false))) c.loop-mark.invariant
