use Rattle.std.proofs.Common.{arith, List, subst}
use Rattle.std.proofs.lemmas.List.{take_all}
use Rattle.gs_base.specs.declared.mark.Mark.{Mark}
use Rattle.gs_router.specs.Tables.{Sees}
use Rattle.gs_router.proofs.Sighting.{sees_more, sees_nothing}
use Rattle.gs_router.proofs.tables.sightings.Sightings.note_sightings.Goals as goal

pub loop-mark-init : goal.loop-mark-init
loop-mark-init c = sees_nothing c.args.at.0 c.args.self.now c.requires

pub note_sighting-requires : goal.note_sighting-requires
note_sighting-requires c = c.loop-mark.invariant.moment

pub loop-mark-preserved : goal.loop-mark-preserved
loop-mark-preserved c =
    let steps = c.in_ok-note_sighting.ensures in
    sees_more c.args.at.0 c.args.marks.now c.loop-mark.mark-index c.mark-item.result c.args.self.now c.loop-mark.self c.note_sighting.new.self c.loop-mark-test.true c.mark-item.is steps.marks steps.moment.0 steps.moment.1 steps.ttl c.loop-mark.invariant

pub returns : goal.returns
returns c = subst (λ (marks : List Mark). Sees c.args.at.0 marks c.args.self.now c.loop-mark.self) (take_all c.loop-mark.mark-index c.args.marks.now (omega (arith, c.loop-mark-test.false))) c.loop-mark.invariant
