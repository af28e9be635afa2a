use Rattle.std.proofs.Common.{◌∙◌, sym, ap}
use Rattle.gs_base.specs.declared.mark.Mark.{Mark}
use Rattle.gs_rules.specs.Meshes.{notes}
use Rattle.gs_router.specs.declared.tables.sightings.Sightings.{Sightings}
use Rattle.gs_router.specs.Tables.{neighbour_sighting, noted_if}
use Rattle.gs_router.proofs.Sighting.{passes}
use Rattle.gs_router.proofs.tables.sightings.Sightings.note_neighbour.Goals as goal

pub returns-in_ok-note-in-First-clause-marks : goal.returns-in_ok-note-in-First-clause-marks
returns-in_ok-note-in-First-clause-marks c = λ id q now from.
    let new : Sightings = record { cache = c.note.new.self } in
    passes c.args.self.now new c.in-First.id c.in-First.peer c.in_ok-note-in-First.ensures.notes c.in_ok-note-in-First.ensures.keeps_moment id q now from
    ∙ ap (λ (mark : Mark). noted_if (notes id q mark) (neighbour_sighting c.args.self.now id q now)) (sym c.in-First.is)

pub returns-in_ok-note-in-Near-clause-marks : goal.returns-in_ok-note-in-Near-clause-marks
returns-in_ok-note-in-Near-clause-marks c = λ id q now from.
    let new : Sightings = record { cache = c.note-in-Near.new.self } in
    passes c.args.self.now new c.in-Near.id c.in-Near.peer c.in_ok-note-in-Near.ensures.notes c.in_ok-note-in-Near.ensures.keeps_moment id q now from
    ∙ ap (λ (mark : Mark). noted_if (notes id q mark) (neighbour_sighting c.args.self.now id q now)) (sym c.in-Near.is)
