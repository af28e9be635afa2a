use Rattle.std.proofs.Common.{ap, map, sym, subst}
use Rattle.std.specs.Prelude.{OnOk, if◌then◌else◌}
use Rattle.gs_base.specs.Names.{same_peer}
use Rattle.gs_base.specs.Tokens.{Byte}
use Rattle.gs_wire.specs.Codec.{codec}
use Rattle.gs_plan.specs.declared.plan.Act.{Act}
use Rattle.gs_plan.specs.declared.plan.Act.TheVariants.{Raw, HangUp}
use Rattle.gs_rules.specs.declared.event.Event.TheVariants.{Own}
use Rattle.gs_rules.specs.Saying.{Outgoing, cut_out, is_cut_by, saying}
use Rattle.gs_direct.specs.Outlets.{Closes, Follows, Tells}
use Rattle.gs_direct.proofs.Carrying.{hung_up_told, raw_told}
use Rattle.gs_direct.proofs.Telling.{on_ok, uncut_told}
use Rattle.gs_direct.proofs.outlet.Outlet.tell_act.Goals as goal

pub returns-in-Raw : goal.returns-in-Raw
returns-in-Raw c =
    let old = c.args.self.now in
    let to = c.in-Raw.to in
    let bytes = c.in-Raw.bytes in
    subst (λ (act : Act). OnOk c.put_raw.result (Tells (Own act) old c.put_raw.new.self)) (sym c.in-Raw.is)
    (on_ok c.put_raw.result (Follows (λ (goes : Outgoing). if same_peer to old.to then saying (cut_out codec goes) (map Byte bytes) else goes) old c.put_raw.new.self) (Tells (Own (Raw to bytes)) old c.put_raw.new.self)
    (raw_told to bytes old c.put_raw.new.self c.requires) c.put_raw.ensures)

pub returns-in-HangUp : goal.returns-in-HangUp
returns-in-HangUp c =
    let old = c.args.self.now in
    let new = c.close_lost.new.self in
    let peer = c.in-HangUp.peer in
    subst (λ (act : Act). OnOk c.close_lost.result (Tells (Own act) old new)) (sym c.in-HangUp.is)
    (on_ok c.close_lost.result (Closes (same_peer peer old.to) old new) (Tells (Own (HangUp peer)) old new) (hung_up_told peer old new c.requires) c.close_lost.ensures)

pub returns-in-Subscribe : goal.returns-in-Subscribe
returns-in-Subscribe c = uncut_told (Own c.args.act.now) c.args.self.now c.requires (ap (is_cut_by c.args.self.now.to) c.in-Subscribe.is)

pub returns-in-Unsubscribe : goal.returns-in-Unsubscribe
returns-in-Unsubscribe c = uncut_told (Own c.args.act.now) c.args.self.now c.requires (ap (is_cut_by c.args.self.now.to) c.in-Unsubscribe.is)

pub returns-in-Publish : goal.returns-in-Publish
returns-in-Publish c = uncut_told (Own c.args.act.now) c.args.self.now c.requires (ap (is_cut_by c.args.self.now.to) c.in-Publish.is)
