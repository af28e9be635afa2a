use Rattle.std.proofs.Common.{List, subst}
use Rattle.gs_base.specs.declared.names.PeerNo.{PeerNo}
use Rattle.gs_base.specs.declared.rpc.Rpc.{Rpc}
use Rattle.gs_wire.specs.Codec.{codec}
use Rattle.gs_rules.specs.declared.event.Event.{Event}
use Rattle.gs_rules.specs.Modes.{sent_to}
use Rattle.gs_rules.specs.Saying.{Outgoing, sending_all}
use Rattle.gs_direct.specs.Outlets.{Follows, Tells}
use Rattle.gs_direct.proofs.Carrying.{said_entry}
use Rattle.gs_direct.proofs.outlet.Outlet.tell.Goals as goal

pub returns : goal.returns
returns c =
    let old = c.args.self.now in
    let mid = c.send_all.new.self in
    let new = c.tell_event.new.self in
    said_entry c.args.entry.now old mid new c.if-not-self.false
    (subst (λ (sends : List (PeerNo × Rpc)). Follows (λ (goes : Outgoing). sending_all codec goes (sent_to old.to sends)) old mid) c.sends.ensures c.in_ok-send_all.ensures)
    (subst (λ (event : Event). Tells event mid new) c.event.ensures c.in_ok-tell_event.ensures)
