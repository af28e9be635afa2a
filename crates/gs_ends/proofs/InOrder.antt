-- What was taken of lists is a front of what was given for them.
use Rattle.std.proofs.Common.{◌≡◌, ℕ, zero, suc, Bool, true, false, if◌then◌else◌, List, [], ◌∷◌, Option, Some, None, refl, sym, ap, take, drop, true≢false}
use Rattle.std.specs.Prelude.{IfSome}
use Rattle.std.proofs.lemmas.List.{take-append-drop}
use Rattle.gs_base.specs.declared.names.PeerNo.{PeerNo}
use Rattle.gs_base.specs.Names.{same_peer}
use Rattle.gs_link.specs.declared.item.Item.{Item}
use Rattle.gs_link.specs.declared.item.Item.TheVariants as item
use Rattle.gs_link.specs.declared.item.Slot.{Slot}
use Rattle.gs_link.specs.declared.item.Slot.TheVariants.{Close}
use Rattle.gs_link.specs.Items.{slot_of}
use Rattle.gs_link.specs.Runs.{closes}
use Rattle.gs_ends.specs.Ends.{IsFront, TakesAll, TakesFront, comes_from}
use Rattle.gs_ends.specs.Pairs.{Pair, joints_of}
use Rattle.gs_ends.specs.Lists.{Listed, all_of, as_slots, joints_listed, taken_listed, taken_of}

pub in_front : (lists : List Listed) (q : PeerNo) → TakesFront (joints_listed lists) (taken_listed lists) q
in_front [] q = tt
in_front (ends ∷ lists) q = by (same_peer ends.0 q) (comes_from (joints_listed lists) q) (taken_listed lists q) (in_front lists q)
  where
    by : (b : Bool) (all : Option (List Slot)) (slots : List Slot) → IfSome all (λ whole. IsFront slots whole)
        → IfSome (if b then Some (all_of ends.2) else all) (λ whole. IsFront (if b then taken_of ends.2 else slots) whole)
    by true all slots front = (drop ends.2.count (all_of ends.2), take-append-drop ends.2.count (all_of ends.2))
    by false all slots front = front

none_taken : (n : ℕ) → take n (let none : List Slot = [] in none) ≡ []
none_taken zero = refl
none_taken (suc n) = refl

-- a front with the close in it is all that comes
whole_front : (n : ℕ) (items : List Item) → closes (take n (as_slots items true)) ≡ true → as_slots items true ≡ take n (as_slots items true)
whole_front zero items closed = absurd (true≢false (sym closed))
whole_front (suc n) [] closed = ap (λ (l : List Slot). Close ∷ l) (sym (none_taken n))
whole_front (suc n) (item.Piece bytes ∷ items) closed = ap (λ l. slot_of (item.Piece bytes) ∷ l) (whole_front n items closed)
whole_front (suc n) (item.Round r ∷ items) closed = ap (λ l. slot_of (item.Round r) ∷ l) (whole_front n items closed)

pub wholly_taken : (lists : List Listed) (q : PeerNo) → TakesAll (joints_listed lists) (taken_listed lists) q
wholly_taken [] q closed = absurd (true≢false (sym closed))
wholly_taken (ends ∷ lists) q closed = by (same_peer ends.0 q) (comes_from (joints_listed lists) q) (taken_listed lists q) (wholly_taken lists q) closed
  where
    by : (b : Bool) (all : Option (List Slot)) (slots : List Slot) → (closes slots ≡ true → all ≡ Some slots)
        → closes (if b then taken_of ends.2 else slots) ≡ true → (if b then Some (all_of ends.2) else all) ≡ Some (if b then taken_of ends.2 else slots)
    by true all slots further closed = ap Some (whole_front ends.2.count ends.2.given closed)
    by false all slots further closed = further closed

-- what comes over links is settled for none
pub none_settled : (pairs : List Pair) (q : PeerNo) → comes_from (joints_of pairs) q ≡ None
none_settled [] q = refl
none_settled (pair ∷ pairs) q = by (same_peer pair.0 q) (comes_from (joints_of pairs) q) (none_settled pairs q)
  where
    by : (b : Bool) (rest : Option (List Slot)) → rest ≡ None → (if b then None else rest) ≡ None
    by true rest is = refl
    by false rest is = is
