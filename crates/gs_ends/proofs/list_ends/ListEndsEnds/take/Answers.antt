use Rattle.std.proofs.Common.{◌≡◌, ◌∙◌, Some, true, true≢false, refl, ap, sym, subst, set, List}
use Rattle.gs_link.specs.declared.item.Slot.{Slot}
use Rattle.gs_ends.specs.Ends.{has, IsTaken}
use Rattle.gs_ends.specs.Lists.{KeepsRoom, Listed, ListedEnds, as_slots, joint_in_lists, joints_listed, no_link, taken_of}
use Rattle.gs_ends.proofs.Rooms.{rooms_stay}
use Rattle.gs_ends.proofs.PairLists.{replaced, stands}
use Rattle.gs_ends.proofs.list_ends.ListEndsEnds.take.Goals as goal

pub position_of-place-requires : goal.position_of-place-requires
position_of-place-requires c = record { known = stands joint_in_lists (λ x. refl) c.as_slice.result.now c.args.from (subst (λ (l : List Listed). has (joints_listed l) c.args.from ≡ true) (sym (c.as_slice.ensures.value ∙ ap (λ (v : ListedEnds). v.lists) c.self.view_is)) c.requires.known) }

pub returns-clause-joints : goal.returns-clause-joints
returns-clause-joints c =
    let old : Listed = c.index_mut-pair.result.now in
    let new : Listed = (old.0, old.1, c.take.new.self) in
    let same : joint_in_lists new ≡ joint_in_lists old = ap (λ k. record { peer = old.0; to = old.1.link; from = no_link; comes = Some (as_slots k true) }) c.take.ensures.given in
    let change = replaced joint_in_lists (λ x. refl) _ _ _ c.args.from _ old new _ (ap (λ (v : ListedEnds). v.lists) c.self.view_is) c.as_slice.ensures.value c.position_of-place.ensures.within c.position_of-place.ensures.first c.index_mut-pair.ensures.value same in
    change.joints

pub returns-clause-taken : goal.returns-clause-taken
returns-clause-taken c =
    let old : Listed = c.index_mut-pair.result.now in
    let new : Listed = (old.0, old.1, c.take.new.self) in
    let same : joint_in_lists new ≡ joint_in_lists old = ap (λ k. record { peer = old.0; to = old.1.link; from = no_link; comes = Some (as_slots k true) }) c.take.ensures.given in
    let change = replaced joint_in_lists (λ x. refl) _ _ _ c.args.from _ old new _ (ap (λ (v : ListedEnds). v.lists) c.self.view_is) c.as_slice.ensures.value c.position_of-place.ensures.within c.position_of-place.ensures.first c.index_mut-pair.ensures.value same in
    subst (λ (l : List Slot × List Slot). IsTaken l.0 l.1 c.take.result) (λ i. (sym (change.was (λ pair. taken_of pair.2)) i, sym (change.is (λ pair. taken_of pair.2)) i)) c.take.ensures.taken

pub returns-clause-others : goal.returns-clause-others
returns-clause-others c =
    let old : Listed = c.index_mut-pair.result.now in
    let new : Listed = (old.0, old.1, c.take.new.self) in
    let same : joint_in_lists new ≡ joint_in_lists old = ap (λ k. record { peer = old.0; to = old.1.link; from = no_link; comes = Some (as_slots k true) }) c.take.ensures.given in
    let change = replaced joint_in_lists (λ x. refl) _ _ _ c.args.from _ old new _ (ap (λ (v : ListedEnds). v.lists) c.self.view_is) c.as_slice.ensures.value c.position_of-place.ensures.within c.position_of-place.ensures.first c.index_mut-pair.ensures.value same in
    change.others (λ pair. taken_of pair.2)

pub returns-clause-accepted : goal.returns-clause-accepted
returns-clause-accepted c =
    let old : Listed = c.index_mut-pair.result.now in
    let new : Listed = (old.0, old.1, c.take.new.self) in
    let same : joint_in_lists new ≡ joint_in_lists old = ap (λ k. record { peer = old.0; to = old.1.link; from = no_link; comes = Some (as_slots k true) }) c.take.ensures.given in
    let change = replaced joint_in_lists (λ x. refl) _ _ _ c.args.from _ old new _ (ap (λ (v : ListedEnds). v.lists) c.self.view_is) c.as_slice.ensures.value c.position_of-place.ensures.within c.position_of-place.ensures.first c.index_mut-pair.ensures.value same in
    change.kept (λ pair. pair.1.accepted) refl

pub returns-clause-settled : goal.returns-clause-settled
returns-clause-settled c = λ empty. absurd (true≢false (sym empty ∙ c.take.ensures.comes))

pub returns-clause-room : goal.returns-clause-room
returns-clause-room c =
    let v : ListedEnds = record { lists = c.self.inside.list.items; every = c.self.inside.every; count = c.self.inside.count } in
    let old : Listed = c.index_mut-pair.result.now in
    let new : Listed = (old.0, old.1, c.take.new.self) in
    let after : ListedEnds = record { lists = set v.lists c.position_of-place.result new; every = v.every; count = v.count } in
    subst (λ (w : ListedEnds). KeepsRoom w after w.count) c.self.view_is (record {
      every = refl;
      count = refl;
      rooms = rooms_stay v.lists v.lists _ c.args.from _ old new _ refl c.as_slice.ensures.value c.position_of-place.ensures.within c.position_of-place.ensures.first c.index_mut-pair.ensures.value refl refl;
    })
