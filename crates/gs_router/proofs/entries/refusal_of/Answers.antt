use Rattle.std.proofs.Common.{◌∙◌, sym, ap}
use Rattle.gs_plan.specs.declared.plan.Act.{Act}
use Rattle.gs_rules.specs.declared.event.Event.TheVariants.{Own}
use Rattle.gs_rules.specs.Refusals.{refusal}
use Rattle.gs_router.specs.Known.{peer_with}
use Rattle.gs_router.proofs.entries.refusal_of.Goals as goal

pub returns-in-Subscribe : goal.returns-in-Subscribe
returns-in-Subscribe c = λ L knows. c.refusal_of_subscribe.ensures (peer_with c.args.known.now.setup) L c.args.now.0 knows.agrees ∙ sym (ap (λ (act : Act). refusal (peer_with c.args.known.now.setup) L c.args.now.0 (Own act)) c.in-Subscribe.is)

pub returns-in-Unsubscribe : goal.returns-in-Unsubscribe
returns-in-Unsubscribe c = λ L knows. c.refusal_of_unsubscribe.ensures (peer_with c.args.known.now.setup) L c.args.now.0 knows.agrees ∙ sym (ap (λ (act : Act). refusal (peer_with c.args.known.now.setup) L c.args.now.0 (Own act)) c.in-Unsubscribe.is)
