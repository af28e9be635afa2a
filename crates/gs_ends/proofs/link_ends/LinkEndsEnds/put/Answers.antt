use Rattle.std.proofs.Common.{◌≡◌, ◌∙◌, true, refl, ap, sym, subst, List}
use Rattle.gs_link.specs.declared.item.Slot.{Slot}
use Rattle.gs_ends.specs.Ends.{has, IsPut, linked}
use Rattle.std.specs.List.{IsDistinct}
use Rattle.gs_base.specs.Names.{same_peer}
use Rattle.gs_ends.specs.Pairs.{Pair, joint_of, joints_of, peers_in}
use Rattle.gs_ends.proofs.PairLists.{replaced, stands, stay_apart}
use Rattle.gs_ends.proofs.Calls.{put_of}
use Rattle.gs_ends.proofs.link_ends.LinkEndsEnds.put.Goals as goal

pub position_near-place-requires-clause-known : goal.position_near-place-requires-clause-known
position_near-place-requires-clause-known g c = stands joint_of (λ x. refl) c.as_slice.result.now c.args.to (subst (λ (l : List Pair). has (joints_of l) c.args.to ≡ true) (sym (c.as_slice.ensures.value ∙ c.self.view_is)) c.requires.known)

pub position_near-place-requires-clause-apart : goal.position_near-place-requires-clause-apart
position_near-place-requires-clause-apart g c = subst (λ (l : List Pair). IsDistinct same_peer (peers_in l)) (sym c.as_slice.ensures.value) c.self.invariant

pub returns-clause-joints : goal.returns-clause-joints
returns-clause-joints g c =
    let old : Pair = c.index_mut-pair.result.now in
    let new : Pair = (old.0, c.send.new.self, old.2) in
    let same : joint_of new ≡ joint_of old = ap (λ k. linked old.0 k old.2.link) c.send.ensures.link in
    let change = replaced joint_of (λ x. refl) _ _ _ c.args.to _ old new _ c.self.view_is c.as_slice.ensures.value c.position_near-place.ensures.within c.position_near-place.ensures.first c.index_mut-pair.ensures.value same in
    change.joints

pub returns-clause-accepted : goal.returns-clause-accepted
returns-clause-accepted g c =
    let old : Pair = c.index_mut-pair.result.now in
    let new : Pair = (old.0, c.send.new.self, old.2) in
    let same : joint_of new ≡ joint_of old = ap (λ k. linked old.0 k old.2.link) c.send.ensures.link in
    let change = replaced joint_of (λ x. refl) _ _ _ c.args.to _ old new _ c.self.view_is c.as_slice.ensures.value c.position_near-place.ensures.within c.position_near-place.ensures.first c.index_mut-pair.ensures.value same in
    subst (λ (l : List Slot × List Slot). IsPut l.0 l.1 c.args.item c.send.result) (λ i. (sym (change.was (λ pair. pair.1.accepted)) i, sym (change.is (λ pair. pair.1.accepted)) i)) (put_of _ _ c.args.item _ c.send.ensures.sent c.send.ensures.kept c.send.ensures.back c.send.ensures.closed)

pub returns-clause-others : goal.returns-clause-others
returns-clause-others g c =
    let old : Pair = c.index_mut-pair.result.now in
    let new : Pair = (old.0, c.send.new.self, old.2) in
    let same : joint_of new ≡ joint_of old = ap (λ k. linked old.0 k old.2.link) c.send.ensures.link in
    let change = replaced joint_of (λ x. refl) _ _ _ c.args.to _ old new _ c.self.view_is c.as_slice.ensures.value c.position_near-place.ensures.within c.position_near-place.ensures.first c.index_mut-pair.ensures.value same in
    change.others (λ pair. pair.1.accepted)

pub returns-clause-taken : goal.returns-clause-taken
returns-clause-taken g c =
    let old : Pair = c.index_mut-pair.result.now in
    let new : Pair = (old.0, c.send.new.self, old.2) in
    let same : joint_of new ≡ joint_of old = ap (λ k. linked old.0 k old.2.link) c.send.ensures.link in
    let change = replaced joint_of (λ x. refl) _ _ _ c.args.to _ old new _ c.self.view_is c.as_slice.ensures.value c.position_near-place.ensures.within c.position_near-place.ensures.first c.index_mut-pair.ensures.value same in
    change.kept (λ pair. pair.2.taken) refl

pub invariant_of-self : goal.invariant_of-self
invariant_of-self g c =
    let old : Pair = c.index_mut-pair.result.now in
    let new : Pair = (old.0, c.send.new.self, old.2) in
    let same : joint_of new ≡ joint_of old = ap (λ k. linked old.0 k old.2.link) c.send.ensures.link in
    let change = replaced joint_of (λ x. refl) _ _ _ c.args.to _ old new _ c.self.view_is c.as_slice.ensures.value c.position_near-place.ensures.within c.position_near-place.ensures.first c.index_mut-pair.ensures.value same in
    stay_apart joint_of (λ x. refl) _ _ (change.joints ∙ ap joints_of (sym c.self.view_is)) c.self.invariant
