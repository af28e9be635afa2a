use Rattle.std.proofs.Common.{take}
use Rattle.gs_router.proofs.Meshing.{Meshing}
use Rattle.gs_router.proofs.tables.memberships.Memberships.note_marks.Given as goal

abbrev pub invariant-loop-mark : goal.invariant-loop-mark
invariant-loop-mark l = Meshing l.fn.at.0 (take l.mark-index l.marks) l.fn.self l.self
