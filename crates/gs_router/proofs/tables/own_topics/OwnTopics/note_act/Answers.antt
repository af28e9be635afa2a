use Rattle.std.proofs.Common.{◌∙◌, sym, ap, is_some}
use Rattle.gs_base.specs.declared.names.Topic.{Topic}
use Rattle.gs_rules.specs.declared.event.Event.TheVariants.{Own}
use Rattle.gs_plan.specs.declared.plan.Act.TheVariants.{Subscribe, Unsubscribe}
use Rattle.gs_router.specs.Tables.{kept_topic}
use Rattle.gs_router.proofs.Noting.{subscribes, unsubscribes}
use Rattle.gs_router.proofs.tables.own_topics.OwnTopics.note_act.Goals as goal

pub returns-in_ok-insert-in-Subscribe : goal.returns-in_ok-insert-in-Subscribe
returns-in_ok-insert-in-Subscribe c = λ e L is.
    let stored = c.in_ok-insert-in-Subscribe in
    let topic = c.in_ok-clone_of-in-Subscribe in
    subscribes c.args.self.now _ topic.field-0 L e (record { before = stored.field-0; was = stored.ensures.old; orders = stored.ensures.updates.0; len = stored.ensures.len }) (is ∙ ap Own c.in-Subscribe.is ∙ ap (λ (t : Topic). Own (Subscribe t)) (sym topic.ensures))

pub returns-in_ok-insert-in-Unsubscribe : goal.returns-in_ok-insert-in-Unsubscribe
returns-in_ok-insert-in-Unsubscribe c = λ e L is.
    let stored = c.in_ok-insert-in-Unsubscribe in
    let topic = c.in_ok-clone_of-in-Unsubscribe in
    unsubscribes c.args.self.now _ topic.field-0 L e (record { before = stored.field-0; was = stored.ensures.old; orders = stored.ensures.updates.0; len = stored.ensures.len }) (ap (λ (t : Topic). is_some (kept_topic c.args.self.now t)) topic.ensures ∙ sym c.contains_key.ensures ∙ c.if-not-contains_key.false) (is ∙ ap Own c.in-Unsubscribe.is ∙ ap (λ (t : Topic). Own (Unsubscribe t)) (sym topic.ensures))
