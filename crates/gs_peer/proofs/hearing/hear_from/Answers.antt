use Rattle.std.proofs.Common.{rules, [], ◌∷◌, List, map, sym, subst, refl}
use Rattle.gs_params.specs.Seeding.{seeded_after, seeded_word}
use Rattle.gs_rules.specs.declared.event.Event.TheVariants.{Lost}
use Rattle.gs_rules.specs.declared.event.Loss.TheVariants.{Fault, Gone}
use Rattle.gs_rules.specs.Legal.{losing}
use Rattle.gs_rules.specs.Modes.{exact}
use Rattle.gs_rules.specs.Rounds.{Todo, Hear, HearFault, HearGone}
use Rattle.gs_player.specs.Playing.{Runs}
use Rattle.gs_peer.proofs.Endings.{heard_at_fault, heard_gone}
use Rattle.gs_player.proofs.Runs.{runs_then, told_runs}
use Rattle.gs_peer.proofs.hearing.hear_from.Goals as goal

pub returns-then-is_broken_off-clause-runs : goal.returns-then-is_broken_off-clause-runs
returns-then-is_broken_off-clause-runs c =
    let m = exact seeded_word seeded_after in
    let x = c.args.inbox.now in
    let now = c.args.now in
    let v = c.hear_each.new.router in
    let heard : Runs m now (map (Hear x.peer) x.stage) c.args.router.now c.args.words.now v c.hear_each.new.words [] = search rules in
    let lost = told_runs m now (HearFault x.peer) (losing v.trace x.peer (Lost x.peer Fault)) v c.fault.new.self c.hear_each.new.words c.fault.new.words c.fault.result c.in_ok-never_refused.ensures refl refl heard.runs_on (search rules) in
    subst (λ (todos : List Todo). Runs m now todos c.args.router.now c.args.words.now c.fault.new.self c.fault.new.words []) (sym (heard_at_fault x (search rules)))
    (runs_then m now (map (Hear x.peer) x.stage) (HearFault x.peer ∷ []) c.args.router.now v c.fault.new.self c.args.words.now c.hear_each.new.words c.fault.new.words [] [] heard lost)

pub returns-then-is_closed-clause-runs : goal.returns-then-is_closed-clause-runs
returns-then-is_closed-clause-runs c =
    let m = exact seeded_word seeded_after in
    let x = c.args.inbox.now in
    let now = c.args.now in
    let v = c.hear_each.new.router in
    let heard : Runs m now (map (Hear x.peer) x.stage) c.args.router.now c.args.words.now v c.hear_each.new.words [] = search rules in
    let lost = told_runs m now (HearGone x.peer) (losing v.trace x.peer (Lost x.peer Gone)) v c.gone.new.self c.hear_each.new.words c.gone.new.words c.gone.result c.in_ok-never_refused-2.ensures refl refl heard.runs_on (search rules) in
    subst (λ (todos : List Todo). Runs m now todos c.args.router.now c.args.words.now c.gone.new.self c.gone.new.words []) (sym (heard_gone x (search rules) (search rules)))
    (runs_then m now (map (Hear x.peer) x.stage) (HearGone x.peer ∷ []) c.args.router.now v c.gone.new.self c.args.words.now c.hear_each.new.words c.gone.new.words [] [] heard lost)
