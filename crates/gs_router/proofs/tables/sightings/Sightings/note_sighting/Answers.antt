use Rattle.std.proofs.Common.{◌∙◌, sym, ap}
use Rattle.gs_base.specs.declared.mark.Mark.{Mark}
use Rattle.gs_router.specs.declared.tables.sightings.Sightings.{Sightings}
use Rattle.gs_router.specs.Tables.{neighbour_sighting, neighbour_sighting_after}
use Rattle.gs_router.proofs.Sighting.{marked}
use Rattle.gs_router.proofs.tables.sightings.Sightings.note_sighting.Goals as goal

pub returns-in_ok-mark-in-Seen-clause-marks : goal.returns-in_ok-mark-in-Seen-clause-marks
returns-in_ok-mark-in-Seen-clause-marks c = λ id q now from.
    let new : Sightings = record { cache = c.mark.new.self } in
    marked c.args.self.now new c.args.at c.in-Seen.id c.in-Seen.verdict c.in_ok-mark-in-Seen.ensures.marks c.in_ok-mark-in-Seen.ensures.keeps_moment id q now from
    ∙ ap (λ (mark : Mark). neighbour_sighting_after c.args.self.now.cache.ttl now id c.args.at.0 mark (neighbour_sighting c.args.self.now id q now)) (sym c.in-Seen.is)
