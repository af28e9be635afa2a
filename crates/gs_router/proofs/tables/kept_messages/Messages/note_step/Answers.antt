use Rattle.std.proofs.Common.{◌∙◌, sym, ap, subst}
use Rattle.gs_rules.specs.declared.event.Event.{Event}
use Rattle.gs_rules.specs.declared.event.Event.TheVariants.{Step}
use Rattle.gs_rules.specs.Tables.{aged_after, answered, keeping_order, last_kept}
use Rattle.gs_router.specs.declared.tables.kept_messages.Messages.{Messages}
use Rattle.gs_router.specs.Tables.{HasKept}
use Rattle.gs_router.proofs.Keeping.{shifted}
use Rattle.gs_router.proofs.tables.kept_messages.Messages.note_step.Goals as goal

pub returns-in-BeatEnd-clause-agrees : goal.returns-in-BeatEnd-clause-agrees
returns-in-BeatEnd-clause-agrees c = λ e L is has.
    let new : Messages = record { alloc = c.args.self.now.alloc; cache = c.shift.new.self } in
    let shift = c.shift.ensures in
    subst (λ (event : Event). HasKept new (λ id. aged_after event (last_kept L id)) (answered L) (keeping_order L)) (sym (is ∙ ap Step c.in-BeatEnd.is)) (shifted c.args.self.now new (last_kept L) (answered L) (keeping_order L) shift.set_up has shift.ages shift.keeps shift.orders)
