-- How much room the ends to neighbours have, where the ends of one are replaced.
use Rattle.std.proofs.Common.{◌≡◌, ◌≢◌, ℕ, zero, suc, ◌<◌, Bool, true, false, not, ◌&&◌, ◌||◌, eqb, nat_le, ⊎_elim, List, [], ◌∷◌, length, set, get_or, refl, sym, ap, ◌∙◌, subst, arith, if◌then◌else◌}
use Rattle.gs_base.specs.declared.names.PeerNo.{PeerNo}
use Rattle.gs_base.specs.Names.{same_peer}
use Rattle.gs_link.specs.Ends.{SendingEnd}
use Rattle.gs_link.specs.Runs.{closes}
use Rattle.gs_ends.specs.Pairs.{position_in}
use Rattle.gs_ends.specs.Lists.{Listed, ListedEnds, accepted_in_lists, count_after, counted, is_answered_full, refuses, room_for}
use Rattle.gs_ends.proofs.PairLists.{same_or_not}

room_first : (lists : List Listed) (q : PeerNo) (other : Listed) → position_in lists q < length lists → room_for lists q ≡ (get_or lists (position_in lists q) other).1.capacity
room_first [] q other inside = absurd (omega arith)
room_first (ends ∷ lists) q other inside = ⊎_elim
    (λ (y : (same_peer ends.0 q ≡ true) × (ends.0.0 ≡ q.0)). rw y.0 refl)
    (λ (n : (same_peer ends.0 q ≡ false) × (ends.0.0 ≢ q.0)). let further = rw n.0 at inside in rw n.0 (room_first lists q other (omega arith))) (same_or_not ends.0 q)

room_kept : (lists : List Listed) (i : ℕ) (new other : Listed) → i < length lists → new.0.0 ≡ (get_or lists i other).0.0 → new.1.capacity ≡ (get_or lists i other).1.capacity → (q : PeerNo) → room_for (set lists i new) q ≡ room_for lists q
room_kept [] i new other inside same is q = refl
room_kept (ends ∷ lists) zero new other inside same is q = ap (λ (y : ℕ × ℕ). if eqb y.0 q.0 then y.1 else room_for lists q) (λ i. (same i, is i))
room_kept (ends ∷ lists) (suc i) new other inside same is q = rw (room_kept lists i new other (omega arith) same is q) refl

-- as the code finds the ends of a neighbour: `shown` is the slice of the fields' list, `place` is where it found them
module _ (before fields shown : List Listed) (q : PeerNo) (place : ℕ) (old new other : Listed)
    (view : fields ≡ before) (slice : shown ≡ fields) (within : place < length shown) (first : place ≡ position_in shown q) (found : old ≡ get_or fields place other) where
  inside : place < length fields
  inside = subst (λ (l : List Listed). place < length l) slice within

  at_place : place ≡ position_in fields q
  at_place = first ∙ ap (λ (l : List Listed). position_in l q) slice

  pub room_was : room_for before q ≡ old.1.capacity
  room_was =
      ap (λ (l : List Listed). room_for l q) (sym view)
      ∙ room_first fields q other (subst (λ i. i < length fields) at_place inside)
      ∙ ap (λ i. (get_or fields i other).1.capacity) (sym at_place)
      ∙ ap (λ (x : Listed). x.1.capacity) (sym found)

  pub rooms_stay : new.0.0 ≡ old.0.0 → new.1.capacity ≡ old.1.capacity → (r : PeerNo) → room_for (set fields place new) r ≡ room_for before r
  rooms_stay same is r =
      room_kept fields place new other inside (same ∙ ap (λ (x : Listed). x.0.0) found) (is ∙ ap (λ (x : Listed). x.1.capacity) found) r
      ∙ ap (λ (l : List Listed). room_for l r) view

-- the close was accepted before, or the count refuses the put, or there is no room
answered : (closed counted_out refused full answer : Bool) → refused ≡ not closed && counted_out → answer ≡ not closed && (refused || full) → answer ≡ not closed && (counted_out || full)
answered true counted_out refused full answer is says = says
answered false counted_out refused full answer is says = says ∙ ap (λ b. b || full) is

module _ (v : ListedEnds) (q : PeerNo) (end : SendingEnd) (closed : Bool) (accepted : accepted_in_lists v q ≡ end.accepted) (is_closed : closed ≡ closes end.accepted) where
  finished : closed ≡ closes (accepted_in_lists v q)
  finished = is_closed ∙ ap closes (sym accepted)

  pub answered_full : (refused answer : Bool) → room_for v.lists q ≡ end.capacity → refused ≡ not closed && (counted v.every v.count).0 → answer ≡ refuses end refused → answer ≡ is_answered_full v q
  answered_full refused answer room is says =
      answered (closes (accepted_in_lists v q)) (counted v.every v.count).0 refused (nat_le (room_for v.lists q) (length (accepted_in_lists v q))) answer
      (is ∙ ap (λ b. not b && (counted v.every v.count).0) finished)
      (says ∙ (λ i. not (closes (sym accepted i)) && (refused || nat_le (sym room i) (length (sym accepted i)))))

  pub count_is : (n : ℕ) → n ≡ (if closed then v.count else (counted v.every v.count).1) → n ≡ count_after v q
  count_is n is = is ∙ ap (λ b. if b then v.count else (counted v.every v.count).1) finished
