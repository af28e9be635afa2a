use Rattle.std.proofs.Common.{◌≡◌, rules, refl, subst, sym, [], Option, Some}
use Rattle.std.specs.Prelude.{OnOk}
use Rattle.gs_params.specs.Seeding.{seeded_after, seeded_word}
use Rattle.gs_rules.specs.declared.event.Event.TheVariants as events
use Rattle.gs_rules.specs.declared.event.Loss.TheVariants as losses
use Rattle.gs_rules.specs.Legal.{losing}
use Rattle.gs_rules.specs.Modes.{exact}
use Rattle.gs_rules.specs.Rounds.{HearFault, HearGone}
use Rattle.gs_player.specs.Playing.{Runs}
use Rattle.gs_player.proofs.Runs.{told_runs}
use Rattle.gs_direct.specs.declared.letter.Ending.{Ending}
use Rattle.gs_direct.specs.declared.letter.Ending.TheVariants as endings
use Rattle.gs_direct.specs.Letters.{ending_heard}
use Rattle.gs_direct.proofs.Heard.{if_told}
use Rattle.gs_direct.proofs.peer.hear_ending.Goals as goal

pub returns-in-Some-Fault : goal.returns-in-Some-Fault
returns-in-Some-Fault g c =
    let m = exact seeded_word seeded_after in
    let v = c.args.router.now in
    let q = c.args.from in
    let is : c.args.ending ≡ Some endings.Fault = search rules in
    subst (λ (e : Option Ending). OnOk c.never_refused.result (Runs m c.args.now (ending_heard q e) v c.args.words.now c.fault.new.self c.fault.new.words [])) (sym is)
    (if_told c.never_refused.result _ _ (λ ok. told_runs m c.args.now (HearFault q) (losing v.trace q (events.Lost q losses.Fault)) v c.fault.new.self c.args.words.now c.fault.new.words c.fault.result ok refl refl c.requires c.fault.ensures) c.never_refused.ensures)

pub returns-in-Some-Gone : goal.returns-in-Some-Gone
returns-in-Some-Gone g c =
    let m = exact seeded_word seeded_after in
    let v = c.args.router.now in
    let q = c.args.from in
    let is : c.args.ending ≡ Some endings.Gone = search rules in
    subst (λ (e : Option Ending). OnOk c.never_refused-in-Some-Gone.result (Runs m c.args.now (ending_heard q e) v c.args.words.now c.gone.new.self c.gone.new.words [])) (sym is)
    (if_told c.never_refused-in-Some-Gone.result _ _ (λ ok. told_runs m c.args.now (HearGone q) (losing v.trace q (events.Lost q losses.Gone)) v c.gone.new.self c.args.words.now c.gone.new.words c.gone.result ok refl refl c.requires c.gone.ensures) c.never_refused-in-Some-Gone.ensures)
