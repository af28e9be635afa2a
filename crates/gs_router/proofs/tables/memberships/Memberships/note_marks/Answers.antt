use Rattle.std.proofs.Common.{arith, List, subst}
use Rattle.std.proofs.lemmas.List.{take_all}
use Rattle.gs_base.specs.declared.mark.Mark.{Mark}
use Rattle.gs_router.proofs.Meshing.{Meshing, meshed_more}
use Rattle.gs_router.proofs.tables.memberships.Memberships.note_marks.Goals as goal

pub loop-mark-preserved : goal.loop-mark-preserved
loop-mark-preserved c = meshed_more c.args.at.0 c.args.marks.now c.loop-mark.mark-index c.mark-item.result c.args.self.now c.loop-mark.self c.note_mark.new.self c.loop-mark-test.true c.mark-item.is c.in_ok-note_mark.ensures c.loop-mark.invariant

pub returns : goal.returns
returns c = subst (λ (marks : List Mark). Meshing c.args.at.0 marks c.args.self.now c.loop-mark.self) (take_all c.loop-mark.mark-index c.args.marks.now (omega (arith, c.loop-mark-test.false))) c.loop-mark.invariant
