use Rattle.std.proofs.Common.{take}
use Rattle.gs_router.specs.Tables.{PassesOn}
use Rattle.gs_router.proofs.tables.sightings.Sightings.note_neighbours.Given as goal

abbrev pub invariant-loop-mark : goal.invariant-loop-mark
invariant-loop-mark l = PassesOn (take l.mark-index l.marks) l.fn.self l.self
