use Rattle.std.proofs.Common.{◌∙◌, sym, subst}
use Rattle.gs_base.specs.declared.mark.Mark.{Mark}
use Rattle.gs_score.specs.Histories.{Agrees}
use Rattle.gs_rules.specs.Scoring.{marked_after, setting_of}
use Rattle.gs_router.proofs.Standing.{grafts}
use Rattle.gs_router.proofs.tables.standings.Standings.note_mark.Goals as goal

pub returns-in_ok-graft-in-Grafted : goal.returns-in_ok-graft-in-Grafted
returns-in_ok-graft-in-Grafted c = λ p H agrees.
    let room = sym c.has_room.ensures ∙ c.if-not-has_room.false in
    subst (λ (mark : Mark). Agrees (setting_of p) c.graft.new.self (marked_after p c.args.at mark H)) (sym c.in-Grafted.is)
    (grafts p c.args.self.now.scores c.graft.new.self H c.in-Grafted.peer c.in-Grafted.topic c.args.at room c.in_ok-graft-in-Grafted.ensures.agrees agrees)

pub returns-in-Pruned : goal.returns-in-Pruned
returns-in-Pruned c = λ p H agrees.
    subst (λ (mark : Mark). Agrees (setting_of p) c.prune.new.self (marked_after p c.args.at mark H)) (sym c.in-Pruned.is)
    (c.prune.ensures.agrees (setting_of p) H agrees)
