use Rattle.std.proofs.Common.{take}
use Rattle.gs_router.proofs.Keeping.{Noting}
use Rattle.gs_router.proofs.tables.kept_messages.Messages.note_marks.Given as goal

abbrev pub invariant-loop-mark : goal.invariant-loop-mark
invariant-loop-mark l = Noting l.entry.event (take l.mark-index l.mark-items) l.fn.self l.self
