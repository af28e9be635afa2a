use Rattle.std.proofs.Common.{◌≡◌, ◌∙◌, Some, true, refl, ap, sym, subst, set, List}
use Rattle.gs_link.specs.declared.item.Slot.{Slot}
use Rattle.gs_ends.specs.Ends.{has, IsPut}
use Rattle.gs_ends.specs.Lists.{KeepsRoom, Listed, ListedEnds, all_of, count_after, is_answered_full, joint_in_lists, joints_listed, no_link, taken_of}
use Rattle.gs_link.specs.Ends.{send_found_full}
use Rattle.gs_ends.proofs.Rooms.{answered_full, count_is, room_was, rooms_stay}
use Rattle.gs_ends.proofs.PairLists.{replaced, stands}
use Rattle.gs_ends.proofs.list_ends.ListEndsEnds.put.Goals as goal

pub position_of-place-requires : goal.position_of-place-requires
position_of-place-requires c = record { known = stands joint_in_lists (λ x. refl) c.as_slice.result.now c.args.to (subst (λ (l : List Listed). has (joints_listed l) c.args.to ≡ true) (sym (c.as_slice.ensures.value ∙ ap (λ (v : ListedEnds). v.lists) c.self.view_is)) c.requires.known) }

pub returns-clause-joints : goal.returns-clause-joints
returns-clause-joints c =
    let old : Listed = c.index_mut-pair.result.now in
    let new : Listed = (old.0, c.put.new.self, old.2) in
    let same : joint_in_lists new ≡ joint_in_lists old = ap (λ k. record { peer = old.0; to = k; from = no_link; comes = Some (all_of old.2) }) c.put.ensures.link in
    let change = replaced joint_in_lists (λ x. refl) _ _ _ c.args.to _ old new _ (ap (λ (v : ListedEnds). v.lists) c.self.view_is) c.as_slice.ensures.value c.position_of-place.ensures.within c.position_of-place.ensures.first c.index_mut-pair.ensures.value same in
    change.joints

pub returns-clause-accepted : goal.returns-clause-accepted
returns-clause-accepted c =
    let old : Listed = c.index_mut-pair.result.now in
    let new : Listed = (old.0, c.put.new.self, old.2) in
    let same : joint_in_lists new ≡ joint_in_lists old = ap (λ k. record { peer = old.0; to = k; from = no_link; comes = Some (all_of old.2) }) c.put.ensures.link in
    let change = replaced joint_in_lists (λ x. refl) _ _ _ c.args.to _ old new _ (ap (λ (v : ListedEnds). v.lists) c.self.view_is) c.as_slice.ensures.value c.position_of-place.ensures.within c.position_of-place.ensures.first c.index_mut-pair.ensures.value same in
    subst (λ (l : List Slot × List Slot). IsPut l.0 l.1 c.args.item c.put.result) (λ i. (sym (change.was (λ pair. pair.1.accepted)) i, sym (change.is (λ pair. pair.1.accepted)) i)) c.put.ensures.put

pub returns-clause-others : goal.returns-clause-others
returns-clause-others c =
    let old : Listed = c.index_mut-pair.result.now in
    let new : Listed = (old.0, c.put.new.self, old.2) in
    let same : joint_in_lists new ≡ joint_in_lists old = ap (λ k. record { peer = old.0; to = k; from = no_link; comes = Some (all_of old.2) }) c.put.ensures.link in
    let change = replaced joint_in_lists (λ x. refl) _ _ _ c.args.to _ old new _ (ap (λ (v : ListedEnds). v.lists) c.self.view_is) c.as_slice.ensures.value c.position_of-place.ensures.within c.position_of-place.ensures.first c.index_mut-pair.ensures.value same in
    change.others (λ pair. pair.1.accepted)

pub returns-clause-taken : goal.returns-clause-taken
returns-clause-taken c =
    let old : Listed = c.index_mut-pair.result.now in
    let new : Listed = (old.0, c.put.new.self, old.2) in
    let same : joint_in_lists new ≡ joint_in_lists old = ap (λ k. record { peer = old.0; to = k; from = no_link; comes = Some (all_of old.2) }) c.put.ensures.link in
    let change = replaced joint_in_lists (λ x. refl) _ _ _ c.args.to _ old new _ (ap (λ (v : ListedEnds). v.lists) c.self.view_is) c.as_slice.ensures.value c.position_of-place.ensures.within c.position_of-place.ensures.first c.index_mut-pair.ensures.value same in
    change.kept (λ pair. taken_of pair.2) refl

pub returns-clause-full : goal.returns-clause-full
returns-clause-full c =
    let v : ListedEnds = record { lists = c.self.inside.list.items; every = c.self.inside.every; count = c.self.inside.count } in
    let old : Listed = c.index_mut-pair.result.now in
    let new : Listed = (old.0, c.put.new.self, old.2) in
    let same : joint_in_lists new ≡ joint_in_lists old = ap (λ k. record { peer = old.0; to = k; from = no_link; comes = Some (all_of old.2) }) c.put.ensures.link in
    let change = replaced joint_in_lists (λ x. refl) v.lists v.lists _ c.args.to _ old new _ refl c.as_slice.ensures.value c.position_of-place.ensures.within c.position_of-place.ensures.first c.index_mut-pair.ensures.value same in
    let was = change.was (λ pair. pair.1.accepted) in
    let room = room_was v.lists v.lists _ c.args.to _ old new _ refl c.as_slice.ensures.value c.position_of-place.ensures.within c.position_of-place.ensures.first c.index_mut-pair.ensures.value in
    subst (λ (w : ListedEnds). send_found_full c.put.result ≡ is_answered_full w c.args.to) c.self.view_is
    (answered_full v c.args.to old.1 c.is_closed-closed.result was c.is_closed-closed.ensures c.is_refused-refused.result _ room c.is_refused-refused.ensures.answer c.put.ensures.full)

pub returns-clause-room : goal.returns-clause-room
returns-clause-room c =
    let v : ListedEnds = record { lists = c.self.inside.list.items; every = c.self.inside.every; count = c.self.inside.count } in
    let old : Listed = c.index_mut-pair.result.now in
    let new : Listed = (old.0, c.put.new.self, old.2) in
    let same : joint_in_lists new ≡ joint_in_lists old = ap (λ k. record { peer = old.0; to = k; from = no_link; comes = Some (all_of old.2) }) c.put.ensures.link in
    let change = replaced joint_in_lists (λ x. refl) v.lists v.lists _ c.args.to _ old new _ refl c.as_slice.ensures.value c.position_of-place.ensures.within c.position_of-place.ensures.first c.index_mut-pair.ensures.value same in
    let was = change.was (λ pair. pair.1.accepted) in
    let after : ListedEnds = record { lists = set v.lists c.position_of-place.result new; every = v.every; count = c.is_refused-refused.new.count } in
    subst (λ (w : ListedEnds). KeepsRoom w after (count_after w c.args.to)) c.self.view_is (record {
      every = refl;
      count = count_is v c.args.to old.1 c.is_closed-closed.result was c.is_closed-closed.ensures c.is_refused-refused.new.count c.is_refused-refused.ensures.count;
      rooms = rooms_stay v.lists v.lists _ c.args.to _ old new _ refl c.as_slice.ensures.value c.position_of-place.ensures.within c.position_of-place.ensures.first c.index_mut-pair.ensures.value refl c.put.ensures.capacity;
    })
