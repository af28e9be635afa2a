use Rattle.std.proofs.Common.{ap, sym, subst, true}
use Rattle.std.specs.Prelude.{OnOk}
use Rattle.gs_base.specs.Names.{same_peer}
use Rattle.gs_wire.specs.Codec.{codec}
use Rattle.gs_rules.specs.declared.event.Event.{Event}
use Rattle.gs_rules.specs.declared.event.Event.TheVariants.{RoundEnd, Shut, Lost}
use Rattle.gs_rules.specs.Saying.{cut_out, is_cut}
use Rattle.gs_direct.specs.Outlets.{Closes, Follows, Tells}
use Rattle.gs_direct.proofs.Carrying.{lost_told, round_told, shut_told}
use Rattle.gs_direct.proofs.Telling.{on_ok, uncut_told}
use Rattle.gs_direct.proofs.outlet.Outlet.tell_event.Goals as goal

pub returns-in-RoundEnd : goal.returns-in-RoundEnd
returns-in-RoundEnd c =
    let old = c.args.self.now in
    subst (λ (event : Event). OnOk c.put_out.result (Tells event old c.put_out.new.self)) (sym c.in-RoundEnd.is)
    (on_ok c.put_out.result (Follows (cut_out codec) old c.put_out.new.self) (Tells (RoundEnd c.in-RoundEnd.field-0) old c.put_out.new.self)
    (round_told c.in-RoundEnd.field-0 old c.put_out.new.self c.requires) c.put_out.ensures.follows)

pub returns-in-Shut : goal.returns-in-Shut
returns-in-Shut c =
    let old = c.args.self.now in
    subst (λ (event : Event). OnOk c.close.result (Tells event old c.close.new.self)) (sym c.in-Shut.is)
    (on_ok c.close.result (Closes true old c.close.new.self) (Tells Shut old c.close.new.self) (shut_told old c.close.new.self) c.close.ensures)

pub returns-in-Lost : goal.returns-in-Lost
returns-in-Lost c =
    let old = c.args.self.now in
    let new = c.close_lost.new.self in
    let peer = c.in-Lost.peer in
    subst (λ (event : Event). OnOk c.close_lost.result (Tells event old new)) (sym c.in-Lost.is)
    (on_ok c.close_lost.result (Closes (same_peer peer old.to) old new) (Tells (Lost peer c.in-Lost.field-1) old new) (lost_told peer c.in-Lost.field-1 old new c.requires) c.close_lost.ensures)

pub returns-in-Heard : goal.returns-in-Heard
returns-in-Heard c = uncut_told c.args.event.now c.args.self.now c.requires (ap (is_cut c.args.self.now.to) c.in-Heard.is)

pub returns-in-Late : goal.returns-in-Late
returns-in-Late c = uncut_told c.args.event.now c.args.self.now c.requires (ap (is_cut c.args.self.now.to) c.in-Late.is)

pub returns-in-Part : goal.returns-in-Part
returns-in-Part c = uncut_told c.args.event.now c.args.self.now c.requires (ap (is_cut c.args.self.now.to) c.in-Part.is)

pub returns-in-BeatBegin : goal.returns-in-BeatBegin
returns-in-BeatBegin c = uncut_told c.args.event.now c.args.self.now c.requires (ap (is_cut c.args.self.now.to) c.in-BeatBegin.is)

pub returns-in-Step : goal.returns-in-Step
returns-in-Step c = uncut_told c.args.event.now c.args.self.now c.requires (ap (is_cut c.args.self.now.to) c.in-Step.is)

pub returns-in-Decay : goal.returns-in-Decay
returns-in-Decay c = uncut_told c.args.event.now c.args.self.now c.requires (ap (is_cut c.args.self.now.to) c.in-Decay.is)
