-- Ends that are found by their neighbour, since no neighbour stands twice.
use Rattle.std.proofs.Common.{◌≡◌, Bool, true, false, if◌then◌else◌, List, [], ◌∷◌, refl, sym, ap, ◌∙◌}
use Rattle.std.specs.List.{AllByRecursion, IsDistinct}
use Rattle.std.proofs.lemmas.Map.Keys.{IsDistinct-head, IsDistinct-tail}
use Rattle.gs_base.specs.declared.names.PeerNo.{PeerNo}
use Rattle.gs_base.specs.Names.{same_peer}
use Rattle.gs_link.specs.declared.item.Slot.{Slot}
use Rattle.gs_link.specs.Runs.{closes}
use Rattle.gs_ends.specs.Pairs.{Pair, accepted_for, peers_in, slots_with, taken_from}
use Rattle.gs_net.specs.Dials.{IsClosed, IsFresh}
use Rattle.gs_seats.proofs.Truths.{same_self}

-- what is found by its neighbour is its own
abbrev IsFound : (Pair → List Slot) → List Pair → Pair → Type 0
IsFound list pairs pair = slots_with list pairs pair.0 ≡ list pair

module _ (list : Pair → List Slot) where
  found_after : (first : Pair) (pairs some : List Pair) → AllByRecursion (λ q. same_peer first.0 q ≡ false) (peers_in some) → AllByRecursion (IsFound list pairs) some → AllByRecursion (IsFound list (first ∷ pairs)) some
  found_after first pairs [] apart found = tt
  found_after first pairs (pair ∷ some) apart found = (rw apart.0 found.0, found_after first pairs some apart.1 found.1)

  pub each_found : (pairs : List Pair) → IsDistinct same_peer (peers_in pairs) → AllByRecursion (IsFound list pairs) pairs
  each_found [] apart = tt
  each_found (pair ∷ pairs) apart = (
    rw (same_self pair.0) refl,
    found_after pair pairs pairs (IsDistinct-head same_peer pair.0 (peers_in pairs) apart) (each_found pairs (IsDistinct-tail same_peer pair.0 (peers_in pairs) apart)),
  )

-- A pair of this list, by what is found there: its lists, and the one that was taken is closed.
pub record StandsIn (pairs : List Pair) (pair : Pair) : Type 0 where
  pub accepted : accepted_for pairs pair.0 ≡ pair.1.accepted
  pub taken : taken_from pairs pair.0 ≡ pair.2.taken
  pub closed : IsClosed pair

pub each_stands : (pairs : List Pair) → IsDistinct same_peer (peers_in pairs) → AllByRecursion IsClosed pairs → AllByRecursion (StandsIn pairs) pairs
each_stands pairs apart closed = all_three pairs (each_found (λ pair. pair.1.accepted) pairs apart) (each_found (λ pair. pair.2.taken) pairs apart) closed
  where
    all_three : (some : List Pair) → AllByRecursion (IsFound (λ pair. pair.1.accepted) pairs) some → AllByRecursion (IsFound (λ pair. pair.2.taken) pairs) some → AllByRecursion IsClosed some → AllByRecursion (StandsIn pairs) some
    all_three [] a t c = tt
    all_three (pair ∷ some) a t c = (record { accepted = a.0; taken = t.0; closed = c.0 }, all_three some a.1 t.1 c.1)

-- who has taken the close of each neighbour has only closed ends
pub closed_by_neighbour : (pairs : List Pair) → IsDistinct same_peer (peers_in pairs) → AllByRecursion (λ q. closes (taken_from pairs q) ≡ true) (peers_in pairs) → AllByRecursion IsClosed pairs
closed_by_neighbour pairs apart closed = each pairs (each_found (λ pair. pair.2.taken) pairs apart) closed
  where
    each : (some : List Pair) → AllByRecursion (IsFound (λ pair. pair.2.taken) pairs) some → AllByRecursion (λ q. closes (taken_from pairs q) ≡ true) (peers_in some) → AllByRecursion IsClosed some
    each [] found closed = tt
    each (pair ∷ some) found closed = (ap closes (sym found.0) ∙ closed.0, each some found.1 closed.1)

either_empty : (b : Bool) (xs ys : List Slot) → xs ≡ [] → ys ≡ [] → (if b then xs else ys) ≡ []
either_empty true xs ys e f = e
either_empty false xs ys e f = f

-- over fresh ends nothing was accepted for anyone, and nothing was taken
pub none_accepted : (pairs : List Pair) → AllByRecursion IsFresh pairs → (q : PeerNo) → accepted_for pairs q ≡ []
none_accepted [] fresh q = refl
none_accepted (pair ∷ pairs) fresh q = either_empty (same_peer pair.0 q) pair.1.accepted (accepted_for pairs q) fresh.0.0 (none_accepted pairs fresh.1 q)

pub none_taken : (pairs : List Pair) → AllByRecursion IsFresh pairs → (q : PeerNo) → taken_from pairs q ≡ []
none_taken [] fresh q = refl
none_taken (pair ∷ pairs) fresh q = either_empty (same_peer pair.0 q) pair.2.taken (taken_from pairs q) fresh.0.1 (none_taken pairs fresh.1 q)
