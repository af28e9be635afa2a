use Rattle.std.proofs.Common.{◌∙◌, List, subst, sym}
use Rattle.gs_base.specs.declared.mark.Mark.{Mark}
use Rattle.gs_base.specs.declared.names.Millis.{Millis}
use Rattle.gs_router.specs.Tables.{PassesOn, Sees}
use Rattle.gs_router.proofs.Sighting.{noted_all}
use Rattle.gs_router.proofs.tables.sightings.Sightings.note.Goals as goal

pub returns-clause-agrees : goal.returns-clause-agrees
returns-clause-agrees c = λ L.
    noted_all c.args.self.now c.note_sightings.new.self c.note_neighbours.new.self c.args.entry.now L c.marks.result.now c.marks.ensures (subst (λ (at : Millis). Sees at.0 c.marks.result.now c.args.self.now c.note_sightings.new.self) c.at.ensures c.in_ok-note_sightings.ensures) (subst (λ (marks : List Mark). PassesOn marks c.note_sightings.new.self c.note_neighbours.new.self) (c.marks-2.ensures ∙ sym c.marks.ensures) c.in_ok-note_neighbours.ensures)
