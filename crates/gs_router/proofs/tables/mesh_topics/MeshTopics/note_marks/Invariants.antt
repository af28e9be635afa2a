use Rattle.std.proofs.Common.{take}
use Rattle.gs_router.proofs.Fanning.{Fanning}
use Rattle.gs_router.proofs.tables.mesh_topics.MeshTopics.note_marks.Given as goal

abbrev pub invariant-loop-mark : goal.invariant-loop-mark
invariant-loop-mark l = Fanning (take l.mark-index l.marks) l.fn.self l.self
