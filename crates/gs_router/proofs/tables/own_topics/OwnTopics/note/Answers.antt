use Rattle.std.proofs.Common.{◌∙◌, sym, ap}
use Rattle.gs_rules.specs.declared.event.Event.TheVariants.{Own}
use Rattle.gs_router.proofs.tables.own_topics.OwnTopics.note.Goals as goal

pub returns-in_ok-note_act-in-Own : goal.returns-in_ok-note_act-in-Own
returns-in_ok-note_act-in-Own c = λ L agrees. c.in_ok-note_act-in-Own.ensures c.args.entry.now L (sym c.event.ensures ∙ c.in-Own.is ∙ ap Own (sym c.get.ensures)) agrees
