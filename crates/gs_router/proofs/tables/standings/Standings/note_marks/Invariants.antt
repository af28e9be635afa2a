use Rattle.std.proofs.Common.{take}
use Rattle.gs_router.proofs.Standing.{Counting}
use Rattle.gs_router.proofs.tables.standings.Standings.note_marks.Given as goal

abbrev pub invariant-loop-mark : goal.invariant-loop-mark
invariant-loop-mark l = Counting l.fn.at (take l.mark-index l.marks) l.fn.self l.self
