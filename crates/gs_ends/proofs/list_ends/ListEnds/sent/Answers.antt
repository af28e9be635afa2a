use Rattle.std.proofs.Common.{◌≡◌, ◌∙◌, true, refl, ap, sym, subst, List}
use Rattle.gs_link.specs.declared.item.Slot.{Slot}
use Rattle.gs_link.specs.Runs.{closes}
use Rattle.gs_ends.specs.Ends.{has}
use Rattle.gs_ends.specs.Lists.{Listed, ListedEnds, as_slots, joint_in_lists, joints_listed}
use Rattle.gs_ends.proofs.PairLists.{replaced, stands}
use Rattle.gs_ends.proofs.list_ends.ListEnds.sent.Goals as goal

pub position_of-place-requires : goal.position_of-place-requires
position_of-place-requires c = record { known = stands joint_in_lists (λ x. refl) c.as_slice.result.now c.args.to (subst (λ (l : List Listed). has (joints_listed l) c.args.to ≡ true) (sym (c.as_slice.ensures.value ∙ ap (λ (v : ListedEnds). v.lists) c.self.view_is)) c.requires.known) }

pub returns : goal.returns
returns c =
    let found : Listed = c.index-pair.result.now in
    let change = replaced joint_in_lists (λ x. refl) _ _ _ c.args.to _ found found _ (ap (λ (v : ListedEnds). v.lists) c.self.view_is) c.as_slice.ensures.value c.position_of-place.ensures.within c.position_of-place.ensures.first c.index-pair.ensures refl in
    subst (λ (l : List Slot). as_slots c.items.result.now (closes l) ≡ l) (sym (change.was (λ pair. pair.1.accepted))) c.items.ensures
