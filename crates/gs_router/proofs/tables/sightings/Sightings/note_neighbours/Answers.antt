use Rattle.std.proofs.Common.{arith, List, subst}
use Rattle.std.proofs.lemmas.List.{take_all}
use Rattle.gs_base.specs.declared.mark.Mark.{Mark}
use Rattle.gs_router.specs.Tables.{PassesOn}
use Rattle.gs_router.proofs.Sighting.{passes_more, passes_nothing}
use Rattle.gs_router.proofs.tables.sightings.Sightings.note_neighbours.Goals as goal

pub loop-mark-init : goal.loop-mark-init
loop-mark-init c = passes_nothing c.args.self.now

pub loop-mark-preserved : goal.loop-mark-preserved
loop-mark-preserved c =
    let steps = c.in_ok-note_neighbour.ensures in
    passes_more c.args.marks.now c.loop-mark.mark-index c.mark-item.result c.args.self.now c.loop-mark.self c.note_neighbour.new.self c.loop-mark-test.true c.mark-item.is steps.marks steps.moment steps.ttl c.loop-mark.invariant

pub returns : goal.returns
returns c = subst (λ (marks : List Mark). PassesOn marks c.args.self.now c.loop-mark.self) (take_all c.loop-mark.mark-index c.args.marks.now (omega (arith, c.loop-mark-test.false))) c.loop-mark.invariant
