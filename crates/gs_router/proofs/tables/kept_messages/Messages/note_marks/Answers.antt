use Rattle.std.proofs.Common.{arith, ◌∙◌, ◌+◌, List, subst, sym, take}
use Rattle.std.proofs.lemmas.List.{take_all}
use Rattle.gs_base.specs.declared.mark.Mark.{Mark}
use Rattle.gs_rules.specs.declared.event.Event.{Event}
use Rattle.gs_router.proofs.Keeping.{Noting, noted_all, noted_more}
use Rattle.gs_router.proofs.tables.kept_messages.Messages.note_marks.Goals as goal

pub loop-mark-preserved : goal.loop-mark-preserved
loop-mark-preserved c =
    let marks : List Mark = c.marks-mark-items.result.now in
    let i = c.loop-mark.mark-index in
    subst (λ (event : Event). Noting event (take (i + 1) marks) c.args.self.now c.note_mark.new.self) c.event.ensures
    (noted_more c.event.result.now marks i c.mark-item.result c.args.self.now c.loop-mark.self c.note_mark.new.self c.loop-mark-test.true c.mark-item.is c.in_ok-note_mark.ensures.has c.in_ok-note_mark.ensures.alike
    (subst (λ (event : Event). Noting event (take i marks) c.args.self.now c.loop-mark.self) (sym c.event.ensures) c.loop-mark.invariant))

pub returns-clause-agrees : goal.returns-clause-agrees
returns-clause-agrees c = λ L agrees.
    let marks = c.marks-mark-items.result.now in
    noted_all c.args.entry.now L c.args.self.now c.loop-mark.self _ (take_all c.loop-mark.mark-index marks (omega (arith, c.loop-mark-test.false)) ∙ c.marks-mark-items.ensures) c.loop-mark.invariant agrees

pub returns-clause-alike : goal.returns-clause-alike
returns-clause-alike c = c.loop-mark.invariant.alike
