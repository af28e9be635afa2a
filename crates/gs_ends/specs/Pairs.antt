-- A peer's ends in a list: each neighbour, with the end that sends to it and the end that takes from it.
use Rattle.std.specs.Prelude.{ℕ, suc, Bool, if◌then◌else◌, List, [], ◌∷◌, map}
use Rattle.gs_base.specs.declared.names.PeerNo.{PeerNo}
use Rattle.gs_base.specs.Names.{same_peer}
use Rattle.gs_link.specs.declared.item.Slot.{Slot}
use Rattle.gs_link.specs.Ends.{SendingEnd, TakingEnd}
use Rattle.gs_ends.specs.Ends.{Joint, linked}
use Rattle.gs_ends.specs.declared.ends.Ends.{Ghosts as EndsOf}

abbrev pub Pair : Type 0
Pair = PeerNo × SendingEnd × TakingEnd

-- ---- the neighbours of a list, whatever their ends are

-- the element is of this neighbour
abbrev pub is_of : {A B : Type 0} → PeerNo → PeerNo × A × B → Bool
is_of q x = same_peer x.0 q

-- the place of the first element that is of this neighbour
abbrev pub position_in : {A B : Type 0} → List (PeerNo × A × B) → PeerNo → ℕ
position_in [] q = 0
position_in (x ∷ xs) q = if is_of q x then 0 else suc (position_in xs q)

-- the neighbours, in the order of the list
abbrev pub peers_in : {A B : Type 0} → List (PeerNo × A × B) → List PeerNo
peers_in xs = map (λ x. x.0) xs

-- ---- what contracts see of the ends

-- which links the ends of each neighbour belong to
abbrev pub joint_of : Pair → Joint
joint_of pair = linked pair.0 pair.1.link pair.2.link

abbrev pub joints_of : List Pair → List Joint
joints_of pairs = map joint_of pairs

-- the list that an end of a neighbour has, or the empty list where there is no such neighbour
abbrev pub slots_with : {A B : Type 0} → (PeerNo × A × B → List Slot)
    → List (PeerNo × A × B) → PeerNo → List Slot
slots_with list [] q = []
slots_with list (x ∷ xs) q = if is_of q x then list x else slots_with list xs q

-- all that the end to a neighbour accepted
abbrev pub accepted_for : {B : Type 0} → List (PeerNo × SendingEnd × B) → PeerNo → List Slot
accepted_for pairs q = slots_with (λ pair. pair.1.accepted) pairs q

-- all that the end from a neighbour took
abbrev pub taken_from : List Pair → PeerNo → List Slot
taken_from pairs q = slots_with (λ pair. pair.2.taken) pairs q

-- all three, as contracts see them of any ends
abbrev pub pair_ends : EndsOf (List Pair)
pair_ends = record { joints = joints_of; accepted = accepted_for; taken = taken_from }
