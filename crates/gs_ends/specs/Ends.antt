-- Which links a peer's ends belong to, and what a call changes in the lists of a neighbour.
use Rattle.std.specs.Prelude.{◌≡◌, ◌≢◌, ◌≤◌, ℕ, Bool, true, false, if◌then◌else◌, List, [], ◌∷◌, ◌++◌, length, Option, Some, None, IfSome, Result, Ok, Err}
use Rattle.std.specs.List.{list_any}
use Rattle.gs_base.specs.declared.names.PeerNo.{PeerNo}
use Rattle.gs_base.specs.Names.{same_peer}
use Rattle.gs_link.specs.declared.item.Item.{Item}
use Rattle.gs_link.specs.declared.item.Slot.{Slot}
use Rattle.gs_link.specs.declared.item.Slot.TheVariants.{Close}
use Rattle.gs_link.specs.declared.fault.SendRefused.{SendRefused}
use Rattle.gs_link.specs.declared.fault.SendRefused.TheVariants as send
use Rattle.gs_link.specs.declared.fault.CloseRefused.{CloseRefused}
use Rattle.gs_link.specs.declared.fault.CloseRefused.TheVariants as close
use Rattle.gs_link.specs.declared.receiver.Taken.{Taken}
use Rattle.gs_link.specs.declared.receiver.Taken.TheVariants as took
use Rattle.gs_link.specs.Items.{slot_of}
use Rattle.gs_link.specs.Runs.{closes}
use Rattle.gs_link.specs.Ends.{LinkId, with_close}

-- ---- which ends there are

-- A neighbour, the link to it, the link from it, and all that comes from it, where that is settled beforehand.
pub record Joint : Type 0 where
  pub peer : PeerNo
  pub to : LinkId
  pub from : LinkId
  pub comes : Option (List Slot)

-- a neighbour with two links: nobody knows beforehand what comes from it
abbrev pub linked : PeerNo → LinkId → LinkId → Joint
linked q to from = record { peer = q; to = to; from = from; comes = None }

abbrev pub is_joint_of : PeerNo → Joint → Bool
is_joint_of q joint = same_peer joint.peer q

-- there are ends to and from this neighbour
abbrev pub has : List Joint → PeerNo → Bool
has joints q = list_any (is_joint_of q) joints

-- all that comes from this neighbour, where that is settled beforehand
abbrev pub comes_from : List Joint → PeerNo → Option (List Slot)
comes_from [] q = None
comes_from (joint ∷ joints) q = if is_joint_of q joint then joint.comes else comes_from joints q

-- the slots are the first of all of them, in order
abbrev pub IsFront : List Slot → List Slot → Type 0
IsFront slots all = (rest : List Slot) × (slots ++ rest ≡ all)

-- where it is settled what comes from a neighbour, what was taken is the front of that
abbrev pub TakesFront : List Joint → (PeerNo → List Slot) → PeerNo → Type 0
TakesFront joints taken q = IfSome (comes_from joints q) (λ all. IsFront (taken q) all)

-- where the close of a neighbour was taken, all that comes from it was taken
abbrev pub TakesAll : List Joint → (PeerNo → List Slot) → PeerNo → Type 0
TakesAll joints taken q = closes (taken q) ≡ true → comes_from joints q ≡ Some (taken q)

-- ---- how a call changes the lists

-- the lists of other neighbours stay as they are
abbrev pub OthersStay : PeerNo → (PeerNo → List Slot) → (PeerNo → List Slot) → Type 0
OthersStay p before after = (q : PeerNo) → q ≢ p → after q ≡ before q

-- an item was put: it stands at the back, or it comes back and nothing changed
abbrev pub IsPut : List Slot → List Slot → Item → Result (Unit {0}) SendRefused → Type 0
IsPut before after item (Ok x) = (closes before ≡ false) × (after ≡ before ++ slot_of item ∷ [])
IsPut before after item (Err (send.Closed back)) = (closes before ≡ true) × (after ≡ before) × (back ≡ item)
IsPut before after item (Err (send.Full back)) = (closes before ≡ false) × (after ≡ before) × (back ≡ item)

-- the close was put: it stands at the back, or nothing changed
abbrev pub IsFinished : List Slot → List Slot → Result (Unit {0}) CloseRefused → Type 0
IsFinished before after (Ok x) = (closes before ≡ false) × (after ≡ before ++ Close ∷ [])
IsFinished before after (Err close.Closed) = (closes before ≡ true) × (after ≡ before)
IsFinished before after (Err close.Full) = (closes before ≡ false) × (after ≡ before)

-- what came first was taken: an item, nothing, or the close, after which nothing comes
abbrev pub IsTaken : List Slot → List Slot → Taken → Type 0
IsTaken before after (took.Got item) = (closes before ≡ false) × (after ≡ before ++ slot_of item ∷ [])
IsTaken before after took.Empty = (closes before ≡ false) × (after ≡ before)
IsTaken before after took.Closed = after ≡ with_close before

-- ---- how far lists grow

-- the slots of q, among slots that each belong to a neighbour
abbrev pub slots_of : List (PeerNo × Slot) → PeerNo → List Slot
slots_of [] q = []
slots_of (x ∷ xs) q = if same_peer x.0 q then x.1 ∷ slots_of xs q else slots_of xs q

-- the lists grew by at most this many slots, over all neighbours together
abbrev pub GrewBy : ℕ → (PeerNo → List Slot) → (PeerNo → List Slot) → Type 0
GrewBy most before after =
    (more : List (PeerNo × Slot)) × (length more ≤ most) × ((q : PeerNo) → after q ≡ before q ++ slots_of more q)
