use Rattle.std.proofs.Common.{◌≡◌, subst}
use Rattle.std.specs.Prelude.{if◌then◌else◌}
use Rattle.gs_rules.specs.declared.event.Event.{Event}
use Rattle.gs_rules.specs.Saying.{behind_event}
use Rattle.gs_wire.specs.Codec.{codec}
use Rattle.gs_peer.specs.Outboxes.{is_open, outgoing_in}
use Rattle.gs_peer.proofs.BoxPlaces.{entry_told}
use Rattle.gs_peer.proofs.outboxes.Outboxes.tell.Goals as goal

pub returns-clause-told : goal.returns-clause-told
returns-clause-told c = λ q.
    let told = subst (λ (event : Event). outgoing_in c.tell_event.new.self q ≡ (if is_open c.send_all.new.self q then behind_event codec q (outgoing_in c.send_all.new.self q) event else outgoing_in c.send_all.new.self q)) c.event.ensures (c.in_ok-tell_event.ensures.told q) in
    entry_told codec q (is_open c.args.self.now q) (is_open c.send_all.new.self q) c.sends.result.now c.args.entry.now.effects.sends c.args.entry.now.event (outgoing_in c.args.self.now q) (outgoing_in c.send_all.new.self q) (outgoing_in c.tell_event.new.self q) c.sends.ensures (c.in_ok-send_all.ensures.told q) (c.in_ok-send_all.ensures.open q) told
