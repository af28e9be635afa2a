use Rattle.std.proofs.Common.{take}
use Rattle.gs_router.specs.Tables.{Sees}
use Rattle.gs_router.proofs.tables.sightings.Sightings.note_sightings.Given as goal

abbrev pub invariant-loop-mark : goal.invariant-loop-mark
invariant-loop-mark l = Sees l.fn.at.0 (take l.mark-index l.marks) l.fn.self l.self
