use Rattle.std.proofs.Common.{◌≡◌, ◌++◌, List, false, None, refl, sym, ap, subst, subst₂, ◌∙◌}
use Rattle.std.specs.Option.{IsSome}
use Rattle.indexmap.proofs.CallerLemmas.{updates-with_value_at}
use Rattle.gs_base.specs.Names.{same_peer}
use Rattle.gs_link.specs.declared.item.Slot.{Slot}
use Rattle.gs_link.specs.Flat.{flat}
use Rattle.gs_params.proofs.Picking.{same_peer_equiv}
use Rattle.gs_peer.specs.declared.outbox.Outbox.{Outbox}
use Rattle.gs_peer.specs.Moved.{MovesIf}
use Rattle.gs_peer.specs.Outboxes.{waiting}
use Rattle.gs_peer.proofs.BoxPlaces.{box_is, found_here, put_is, same_by, slots_in, stays_apart}
use Rattle.gs_peer.proofs.outboxes.Outboxes.offer.Goals as goal

pub returns-then-is_at-clause-open : goal.returns-then-is_at-clause-open
returns-then-is_at-clause-open g c =
    let m = c.args.self.now.boxes in
    let new = c.offer.new.self in
    let there = c.is_at.ensures.there c.if-is_at.true in
    let puts = (updates-with_value_at m c.args.near new same_peer_equiv c.pair_mut-outbox.ensures.unique c.args.to there.0 there.1).0 in
    let one = box_is c.pair_mut-outbox.result.0.now c.args.to c.pair_mut-outbox.result.1.now there.0 _ c.pair_mut-outbox.ensures.value there.1 in
    λ q. same_by (λ (box : Outbox). box.is_open) false (same_peer c.args.to q) there.0 new _ _ (puts q) (found_here c.args.to q m.entries _ there.2) (c.in_ok-moved.ensures.«open» ∙ ap (λ (box : Outbox). box.is_open) one)

pub returns-then-is_at-clause-gathered : goal.returns-then-is_at-clause-gathered
returns-then-is_at-clause-gathered g c =
    let m = c.args.self.now.boxes in
    let new = c.offer.new.self in
    let there = c.is_at.ensures.there c.if-is_at.true in
    let puts = (updates-with_value_at m c.args.near new same_peer_equiv c.pair_mut-outbox.ensures.unique c.args.to there.0 there.1).0 in
    let one = box_is c.pair_mut-outbox.result.0.now c.args.to c.pair_mut-outbox.result.1.now there.0 _ c.pair_mut-outbox.ensures.value there.1 in
    λ q. same_by (λ (box : Outbox). box.gathered) None (same_peer c.args.to q) there.0 new _ _ (puts q) (found_here c.args.to q m.entries _ there.2) (c.in_ok-moved.ensures.gathered ∙ ap (λ (box : Outbox). box.gathered) one)

pub returns-then-is_at-clause-stays : goal.returns-then-is_at-clause-stays
returns-then-is_at-clause-stays g c =
    let m = c.args.self.now.boxes in
    let new = c.offer.new.self in
    let there = c.is_at.ensures.there c.if-is_at.true in
    let puts = (updates-with_value_at m c.args.near new same_peer_equiv c.pair_mut-outbox.ensures.unique c.args.to there.0 there.1).0 in
    λ q apart. stays_apart c.args.to q new _ _ (puts q) apart

pub returns-then-is_at-clause-moved : goal.returns-then-is_at-clause-moved
returns-then-is_at-clause-moved g c =
    let m = c.args.self.now.boxes in
    let new = c.offer.new.self in
    let there = c.is_at.ensures.there c.if-is_at.true in
    let puts = (updates-with_value_at m c.args.near new same_peer_equiv c.pair_mut-outbox.ensures.unique c.args.to there.0 there.1).0 in
    let one = box_is c.pair_mut-outbox.result.0.now c.args.to c.pair_mut-outbox.result.1.now there.0 _ c.pair_mut-outbox.ensures.value there.1 in
    let was : waiting c.args.self.now c.args.to ≡ c.pair_mut-outbox.result.1.now.slots = ap slots_in there.2 ∙ sym (ap (λ (box : Outbox). box.slots) one) in
    let now = ap slots_in (put_is c.args.to new _ _ (puts c.args.to)) in
    subst₂ (MovesIf c.in_ok-moved.moved (g.S.Ends.accepted c.args.ends.now c.args.to) (g.S.Ends.accepted c.offer.new.ends c.args.to)) (sym was) (sym now) c.in_ok-moved.ensures.moved

pub returns-then-is_at-clause-says : goal.returns-then-is_at-clause-says
returns-then-is_at-clause-says g c =
    let m = c.args.self.now.boxes in
    let new = c.offer.new.self in
    let there = c.is_at.ensures.there c.if-is_at.true in
    let puts = (updates-with_value_at m c.args.near new same_peer_equiv c.pair_mut-outbox.ensures.unique c.args.to there.0 there.1).0 in
    let one = box_is c.pair_mut-outbox.result.0.now c.args.to c.pair_mut-outbox.result.1.now there.0 _ c.pair_mut-outbox.ensures.value there.1 in
    let was : waiting c.args.self.now c.args.to ≡ c.pair_mut-outbox.result.1.now.slots = ap slots_in there.2 ∙ sym (ap (λ (box : Outbox). box.slots) one) in
    let now = ap slots_in (put_is c.args.to new _ _ (puts c.args.to)) in
    subst₂ (λ (before after : List Slot). flat (g.S.Ends.accepted c.offer.new.ends c.args.to) ++ flat after ≡ flat (g.S.Ends.accepted c.args.ends.now c.args.to) ++ flat before) (sym was) (sym now) c.in_ok-moved.ensures.says

pub returns-in_ok-offered-in-Some-clause-open : goal.returns-in_ok-offered-in-Some-clause-open
returns-in_ok-offered-in-Some-clause-open g c =
    let new = c.offer-in-Some.new.self in
    let puts = ((c.get_mut.follows.holds new).3 (subst IsSome c.in-Some.ensures.value refl)).0 in
    λ q. same_by (λ (box : Outbox). box.is_open) false (same_peer c.args.to q) c.in-Some.outbox.now new _ _ (puts q) (found_here c.args.to q c.args.self.now.boxes.entries _ (sym c.in-Some.ensures.value)) c.in_ok-offered-in-Some.ensures.«open»

pub returns-in_ok-offered-in-Some-clause-gathered : goal.returns-in_ok-offered-in-Some-clause-gathered
returns-in_ok-offered-in-Some-clause-gathered g c =
    let new = c.offer-in-Some.new.self in
    let puts = ((c.get_mut.follows.holds new).3 (subst IsSome c.in-Some.ensures.value refl)).0 in
    λ q. same_by (λ (box : Outbox). box.gathered) None (same_peer c.args.to q) c.in-Some.outbox.now new _ _ (puts q) (found_here c.args.to q c.args.self.now.boxes.entries _ (sym c.in-Some.ensures.value)) c.in_ok-offered-in-Some.ensures.gathered

pub returns-in_ok-offered-in-Some-clause-stays : goal.returns-in_ok-offered-in-Some-clause-stays
returns-in_ok-offered-in-Some-clause-stays g c =
    let new = c.offer-in-Some.new.self in
    let puts = ((c.get_mut.follows.holds new).3 (subst IsSome c.in-Some.ensures.value refl)).0 in
    λ q apart. stays_apart c.args.to q new _ _ (puts q) apart
