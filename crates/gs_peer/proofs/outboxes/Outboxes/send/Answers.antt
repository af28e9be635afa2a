use Rattle.std.proofs.Common.{false, refl, sym, subst}
use Rattle.std.specs.Option.{IsSome}
use Rattle.gs_base.specs.Names.{same_peer}
use Rattle.gs_peer.specs.declared.outbox.Outbox.{Outbox}
use Rattle.gs_peer.proofs.BoxPlaces.{found_here, same_by}
use Rattle.gs_peer.proofs.outboxes.Outboxes.send.Goals as goal

pub returns-in_ok-send-in-Some-clause-open : goal.returns-in_ok-send-in-Some-clause-open
returns-in_ok-send-in-Some-clause-open c =
    let xs = c.args.self.now.boxes.entries in
    let new = c.send.new.self in
    let puts = (c.get_mut.follows.holds new).3 (subst IsSome c.in-Some.ensures.value refl) in
    λ q. same_by (λ (box : Outbox). box.is_open) false (same_peer c.args.to q) c.in-Some.outbox.now new _ _ (puts.0 q) (found_here c.args.to q xs _ (sym c.in-Some.ensures.value)) c.in_ok-send-in-Some.ensures.«open»
