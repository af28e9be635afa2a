use Rattle.std.proofs.Common.{drop}
use Rattle.gs_router.proofs.Spending.{Spending}
use Rattle.gs_router.proofs.tables.budgets.Budgets.note_marks.Given as goal

abbrev pub invariant-loop-mark : goal.invariant-loop-mark
invariant-loop-mark l = Spending l.mark-items (drop l.mark-index l.mark-items) l.fn.self l.self
