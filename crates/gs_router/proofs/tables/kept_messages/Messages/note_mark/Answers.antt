use Rattle.std.proofs.Common.{◌∙◌, sym, ap, subst}
use Rattle.gs_base.specs.declared.mark.Mark.{Mark}
use Rattle.gs_base.specs.declared.mark.Mark.TheVariants.{Cached}
use Rattle.gs_rules.specs.Tables.{answered_after, kept_after, order_after}
use Rattle.gs_router.specs.declared.tables.kept_messages.Messages.{Messages}
use Rattle.gs_router.specs.Tables.{HasKept}
use Rattle.gs_router.proofs.Keeping.{was_put}
use Rattle.gs_router.proofs.tables.kept_messages.Messages.note_mark.Goals as goal

pub returns-in_ok-put-in-Cached-clause-has : goal.returns-in_ok-put-in-Cached-clause-has
returns-in_ok-put-in-Cached-clause-has c = λ last given order has.
    let event = c.args.event.now in
    let new : Messages = record { alloc = c.args.self.now.alloc; cache = c.put.new.self } in
    let topic = c.in_ok-clone_of-in-Cached in
    let message = c.in_ok-message-in-Cached in
    let put = c.in_ok-put-in-Cached.ensures in
    let is = c.in-Cached.is ∙ ap (Cached c.in-Cached.id) (sym topic.ensures) in
    subst (λ (mark : Mark). HasKept new (λ id. kept_after id event mark (last id)) (λ q id. answered_after q id mark (given q id)) (order_after mark order)) (sym is) (was_put c.args.self.now new last given order put.set_up has event c.in-Cached.id topic.field-0 message.message message.ensures put.holds put.resets put.orders)
