-- What has moved, by the answer of a call that may move something.
use Rattle.std.specs.Prelude.{◌≡◌, ◌⊎◌, ◌==◌, Bool, true, false, List, [], ◌∷◌, ◌++◌, length, Option, Some, None}
use Rattle.gs_base.specs.declared.names.PeerNo.{PeerNo}
use Rattle.gs_link.specs.declared.item.Slot.{Slot}
use Rattle.gs_link.specs.declared.item.Slot.TheVariants.{Piece, Round, Close}
use Rattle.gs_ends.specs.Ends.{OthersStay}

-- a list has one slot more where the answer is true, and no more where it is false
abbrev pub GrewIf : Bool → List Slot → List Slot → Type 0
GrewIf true before after = (slot : Slot) × (after ≡ before ++ slot ∷ [])
GrewIf false before after = after ≡ before

-- an empty frame waits first
abbrev pub begins_empty : List Slot → Bool
begins_empty [] = false
begins_empty (Piece bytes ∷ rest) = length bytes == 0
begins_empty (Round round ∷ rest) = false
begins_empty (Close ∷ rest) = false

-- Where the answer is true, one slot more is accepted, or an empty frame that waited first was dropped. Where it is false,
-- nothing is accepted, and no empty frame waited first.
abbrev pub MovesIf : Bool → List Slot → List Slot → List Slot → List Slot → Type 0
MovesIf true before after waited waits =
    ((slot : Slot) × (after ≡ before ++ slot ∷ [])) ⊎ ((after ≡ before) × (waited ≡ Piece [] ∷ waits))
MovesIf false before after waited waits = (after ≡ before) × (begins_empty waited ≡ false)

-- ---- by neighbour

-- the lists of all neighbours stay as they are
abbrev pub AllStay : (PeerNo → List Slot) → (PeerNo → List Slot) → Type 0
AllStay before after = (q : PeerNo) → after q ≡ before q

-- Where the answer is true, the list of this neighbour has one slot more. The other lists stay as they are. Where there is no
-- neighbour the answer is false.
abbrev pub GrewAt : Option PeerNo → Bool → (PeerNo → List Slot) → (PeerNo → List Slot) → Type 0
GrewAt (Some p) moved before after = GrewIf moved (before p) (after p) × OthersStay p before after
GrewAt None moved before after = (moved ≡ false) × AllStay before after

-- Where the answer is true, one slot more is accepted for this neighbour, or an empty frame that waited first for it was
-- dropped. Nothing is moved for others. Where there is no neighbour the answer is false.
abbrev pub MovesAt : Option PeerNo → Bool
    → (PeerNo → List Slot) → (PeerNo → List Slot) → (PeerNo → List Slot) → (PeerNo → List Slot) → Type 0
MovesAt (Some p) moved before after waited waits =
    MovesIf moved (before p) (after p) (waited p) (waits p) × OthersStay p before after × OthersStay p waited waits
MovesAt None moved before after waited waits = (moved ≡ false) × AllStay before after × AllStay waited waits
