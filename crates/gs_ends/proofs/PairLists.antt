-- One pair of a list is replaced by another of the same neighbour and the same links.
use Rattle.std.proofs.Common.{◌≡◌, ◌≢◌, ℕ, zero, suc, ◌<◌, true, false, eqb, ◌||◌, ◌⊎◌, ⊎_elim, List, [], ◌∷◌, length, map, set, get_or, refl, sym, ap, ◌∙◌, subst, arith, if◌then◌else◌}
use Rattle.std.specs.List.{AllByRecursion, IsDistinct, list_any}
use Rattle.std.proofs.lemmas.Bool.{ne_eqb}
use Rattle.std.proofs.lemmas.Bool.Decides.{eqb_tells}
use Rattle.gs_base.specs.declared.names.PeerNo.{PeerNo}
use Rattle.gs_base.specs.Names.{same_peer}
use Rattle.gs_link.specs.declared.item.Slot.{Slot}
use Rattle.gs_ends.specs.Ends.{Joint, has}
use Rattle.gs_ends.specs.Pairs.{is_of, peers_in, position_in, slots_with}

-- ---- neighbours

of_number : (p q : PeerNo) → p.0 ≡ q.0 → p ≡ q
of_number p q e = ap (λ (n : ℕ). let r : PeerNo = record { 0 = n } in r) e

-- it is this neighbour, or another one
pub same_or_not : (p q : PeerNo) → ((same_peer p q ≡ true) × (p.0 ≡ q.0)) ⊎ ((same_peer p q ≡ false) × (p.0 ≢ q.0))
same_or_not p q = eqb_tells p.0 q.0

-- ---- a list in which no neighbour stands twice

module _ {A B : Type 0} where
  differs : (xs : List (PeerNo × A × B)) (p : PeerNo) (i : ℕ) (other : PeerNo × A × B) → AllByRecursion (λ r. same_peer p r ≡ false) (peers_in xs) → i < length xs → same_peer p (get_or xs i other).0 ≡ false
  differs [] p i other all inside = absurd (omega arith)
  differs (x ∷ xs) p zero other all inside = all.0
  differs (x ∷ xs) p (suc i) other all inside = differs xs p i other all.1 (omega arith)

  -- where a neighbour stands is the first place where it does
  pub place_alone : (xs : List (PeerNo × A × B)) (i : ℕ) (q : PeerNo) (other : PeerNo × A × B) → IsDistinct same_peer (peers_in xs) → i < length xs → (get_or xs i other).0.0 ≡ q.0 → i ≡ position_in xs q
  unfolding IsDistinct
  place_alone [] i q other apart inside is = absurd (omega arith)
  place_alone (x ∷ xs) zero q other apart inside is = ⊎_elim
      (λ (y : (same_peer x.0 q ≡ true) × (x.0.0 ≡ q.0)). rw y.0 refl)
      (λ (n : (same_peer x.0 q ≡ false) × (x.0.0 ≢ q.0)). absurd (n.1 is)) (same_or_not x.0 q)
  place_alone (x ∷ xs) (suc i) q other apart inside is =
      let not_here : same_peer x.0 q ≡ false = ap (λ (n : ℕ). eqb x.0.0 n) (sym is) ∙ differs xs x.0 i other apart.0 (omega arith) in
      rw not_here (ap suc (place_alone xs i q other apart.1 (omega arith) is))

-- ---- a list of neighbours with their ends, each known for a joint of this neighbour

module _ {A B : Type 0} (joint : PeerNo × A × B → Joint) (named : (x : PeerNo × A × B) → (joint x).peer ≡ x.0) where
  -- who has ends stands in the list
  pub stands : (xs : List (PeerNo × A × B)) (q : PeerNo) → has (map joint xs) q ≡ true → list_any (is_of q) xs ≡ true
  stands xs q known = is_same xs ∙ known
    where
      is_same : (xs : List (PeerNo × A × B)) → list_any (is_of q) xs ≡ has (map joint xs) q
      is_same [] = refl
      is_same (x ∷ xs) = (λ i. same_peer (sym (named x) i) q || is_same xs i)

  peers_in_joints : (xs : List (PeerNo × A × B)) → map (λ (j : Joint). j.peer) (map joint xs) ≡ peers_in xs
  peers_in_joints [] = refl
  peers_in_joints (x ∷ xs) = λ i. named x i ∷ peers_in_joints xs i

  -- where the joints stay, no neighbour stands twice that did not before
  pub stay_apart : (before after : List (PeerNo × A × B)) → map joint after ≡ map joint before → IsDistinct same_peer (peers_in before) → IsDistinct same_peer (peers_in after)
  stay_apart before after same apart =
      subst (λ (l : List PeerNo). IsDistinct same_peer l)
      (sym (peers_in_joints before) ∙ ap (map (λ (j : Joint). j.peer)) (sym same) ∙ peers_in_joints after) apart

  joints_set : (xs : List (PeerNo × A × B)) (i : ℕ) (new other : PeerNo × A × B) → i < length xs → joint new ≡ joint (get_or xs i other) → map joint (set xs i new) ≡ map joint xs
  joints_set [] i new other inside same = refl
  joints_set (x ∷ xs) zero new other inside same = ap (λ j. j ∷ map joint xs) same
  joints_set (x ∷ xs) (suc i) new other inside same = ap (λ l. joint x ∷ l) (joints_set xs i new other (omega arith) same)

-- ---- the pair at a place

module _ {A B : Type 0} (list : PeerNo × A × B → List Slot) where
  -- another pair of the same neighbour, with the same list
  slots_with_kept : (pairs : List (PeerNo × A × B)) (i : ℕ) (new other : PeerNo × A × B) → i < length pairs → new.0.0 ≡ (get_or pairs i other).0.0 → list new ≡ list (get_or pairs i other) → (q : PeerNo) → slots_with list (set pairs i new) q ≡ slots_with list pairs q
  slots_with_kept [] i new other inside same is q = refl
  slots_with_kept (pair ∷ pairs) zero new other inside same is q = ap (λ (y : ℕ × List Slot). if eqb y.0 q.0 then y.1 else slots_with list pairs q) (λ i. (same i, is i))
  slots_with_kept (pair ∷ pairs) (suc i) new other inside same is q = rw (slots_with_kept pairs i new other (omega arith) same is q) refl

  slots_with_first : (pairs : List (PeerNo × A × B)) (q : PeerNo) (other : PeerNo × A × B) → position_in pairs q < length pairs → slots_with list pairs q ≡ list (get_or pairs (position_in pairs q) other)
  slots_with_first [] q other inside = absurd (omega arith)
  slots_with_first (pair ∷ pairs) q other inside = ⊎_elim
      (λ (y : (same_peer pair.0 q ≡ true) × (pair.0.0 ≡ q.0)). rw y.0 refl)
      (λ (n : (same_peer pair.0 q ≡ false) × (pair.0.0 ≢ q.0)). let further = rw n.0 at inside in rw n.0 (slots_with_first pairs q other (omega arith))) (same_or_not pair.0 q)

  slots_with_new : (pairs : List (PeerNo × A × B)) (q : PeerNo) (new other : PeerNo × A × B) → position_in pairs q < length pairs → new.0.0 ≡ (get_or pairs (position_in pairs q) other).0.0 → slots_with list (set pairs (position_in pairs q) new) q ≡ list new
  slots_with_new [] q new other inside same = absurd (omega arith)
  slots_with_new (pair ∷ pairs) q new other inside same = ⊎_elim
      (λ (y : (same_peer pair.0 q ≡ true) × (pair.0.0 ≡ q.0)). let here = rw y.0 at same in rw (y.0, here, y.0) refl)
      (λ (n : (same_peer pair.0 q ≡ false) × (pair.0.0 ≢ q.0)). let further = rw n.0 at inside in let there = rw n.0 at same in rw (n.0, n.0) (slots_with_new pairs q new other (omega arith) there)) (same_or_not pair.0 q)

  slots_with_other : (pairs : List (PeerNo × A × B)) (q : PeerNo) (new other : PeerNo × A × B) (r : PeerNo) → r ≢ q → position_in pairs q < length pairs → new.0.0 ≡ (get_or pairs (position_in pairs q) other).0.0 → slots_with list (set pairs (position_in pairs q) new) r ≡ slots_with list pairs r
  slots_with_other [] q new other r apart inside same = refl
  slots_with_other (pair ∷ pairs) q new other r apart inside same = ⊎_elim
      (λ (y : (same_peer pair.0 q ≡ true) × (pair.0.0 ≡ q.0)).
      let here = rw y.0 at same in
      let was : eqb pair.0.0 r.0 ≡ false = ne_eqb pair.0.0 r.0 (λ e. apart (of_number r q (sym e ∙ y.1))) in
      let is : eqb new.0.0 r.0 ≡ false = ne_eqb new.0.0 r.0 (λ e. apart (of_number r q (sym e ∙ here ∙ y.1))) in
      rw (y.0, is, was) refl)
      (λ (n : (same_peer pair.0 q ≡ false) × (pair.0.0 ≢ q.0)). let further = rw n.0 at inside in let there = rw n.0 at same in rw (n.0, slots_with_other pairs q new other r apart (omega arith) there) refl) (same_or_not pair.0 q)

-- ---- what a call does to its neighbour's pair

module _ {A B : Type 0} (joint : PeerNo × A × B → Joint) (named : (x : PeerNo × A × B) → (joint x).peer ≡ x.0) where
  -- The first pair of a neighbour became another one with the same links.
  pub record IsReplaced (before after : List (PeerNo × A × B)) (q : PeerNo) (old new : PeerNo × A × B) : Type 0 where
    pub joints : map joint after ≡ map joint before
    pub was : (list : PeerNo × A × B → List Slot) → slots_with list before q ≡ list old
    pub is : (list : PeerNo × A × B → List Slot) → slots_with list after q ≡ list new
    pub others : (list : PeerNo × A × B → List Slot) (r : PeerNo) → r ≢ q → slots_with list after r ≡ slots_with list before r
    pub kept : (list : PeerNo × A × B → List Slot) → list new ≡ list old → (r : PeerNo) → slots_with list after r ≡ slots_with list before r

  -- as the code finds it: `shown` is the slice of the fields' list, `place` is where it found the neighbour
  pub replaced : (before fields shown : List (PeerNo × A × B)) (q : PeerNo) (place : ℕ) (old new other : PeerNo × A × B) → fields ≡ before → shown ≡ fields → place < length shown → place ≡ position_in shown q → old ≡ get_or fields place other → joint new ≡ joint old → IsReplaced before (set fields place new) q old new
  replaced before fields shown q place old new other view slice within first found same = record {
    joints = joints_set joint named fields place new other inside (same ∙ ap joint found) ∙ ap (map joint) view;
    was = λ list. ap (λ l. slots_with list l q) (sym view) ∙ slots_with_first list fields q other first_inside ∙ ap (λ i. list (get_or fields i other)) (sym at_place) ∙ ap list (sym found);
    is = λ list. ap (λ i. slots_with list (set fields i new) q) at_place ∙ slots_with_new list fields q new other first_inside first_same;
    others = λ list r apart. ap (λ i. slots_with list (set fields i new) r) at_place ∙ slots_with_other list fields q new other r apart first_inside first_same ∙ ap (λ l. slots_with list l r) view;
    kept = λ list stays r. slots_with_kept list fields place new other inside (same_number ∙ ap (λ (p : PeerNo × A × B). p.0.0) found) (stays ∙ ap list found) r ∙ ap (λ l. slots_with list l r) view;
  }
    where
      inside : place < length fields
      inside = subst (λ (l : List (PeerNo × A × B)). place < length l) slice within

      at_place : place ≡ position_in fields q
      at_place = first ∙ ap (λ (l : List (PeerNo × A × B)). position_in l q) slice

      first_inside : position_in fields q < length fields
      first_inside = subst (λ i. i < length fields) at_place inside

      same_number : new.0.0 ≡ old.0.0
      same_number = ap (λ (p : PeerNo). p.0) (sym (named new)) ∙ ap (λ (j : Joint). j.peer.0) same ∙ ap (λ (p : PeerNo). p.0) (named old)

      first_same : new.0.0 ≡ (get_or fields (position_in fields q) other).0.0
      first_same = same_number ∙ ap (λ (p : PeerNo × A × B). p.0.0) found ∙ ap (λ i. (get_or fields i other).0.0) at_place
