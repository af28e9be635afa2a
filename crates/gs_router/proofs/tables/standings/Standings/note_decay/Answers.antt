use Rattle.std.proofs.Common.{sym, subst}
use Rattle.gs_score.specs.Histories.{Agrees}
use Rattle.gs_rules.specs.declared.event.Event.{Event}
use Rattle.gs_rules.specs.Scoring.{changed_after, setting_of}
use Rattle.gs_router.proofs.tables.standings.Standings.note_decay.Goals as goal

pub returns-in-Decay : goal.returns-in-Decay
returns-in-Decay c = λ p H agrees. subst (λ (event : Event). Agrees (setting_of p) c.decay.new.self (changed_after event H)) (sym c.in-Decay.is) (c.decay.ensures.agrees (setting_of p) H agrees)
