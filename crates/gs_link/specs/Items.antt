-- What a link carries, and within which sizes.
use Rattle.std.specs.Prelude.{ℕ, ◌≤◌, List, length, ⊤}
use Rattle.gs_link.specs.declared.item.Item.{Item}
use Rattle.gs_link.specs.declared.item.Item.TheVariants as item
use Rattle.gs_link.specs.declared.item.Slot.{Slot}
use Rattle.gs_link.specs.declared.item.Slot.TheVariants as slot

-- how many slots may wait in a link
abbrev pub IsCapacity : ℕ → Type 0
IsCapacity n = (1 ≤ n) × (n ≤ 1024)

-- the bytes of a piece are 1 to 64
abbrev pub IsPiece : List ℕ → Type 0
IsPiece bytes = (1 ≤ length bytes) × (length bytes ≤ 64)

-- what may be sent: a piece of such a size, or the end of any round
abbrev pub IsSendable : Item → Type 0
IsSendable (item.Piece bytes) = IsPiece bytes
IsSendable (item.Round r) = ⊤

-- what may lie in a link
abbrev pub IsCarried : Slot → Type 0
IsCarried (slot.Piece bytes) = IsPiece bytes
IsCarried (slot.Round r) = ⊤
IsCarried slot.Close = ⊤

-- the slot in which an item lies in a link
abbrev pub slot_of : Item → Slot
slot_of (item.Piece bytes) = slot.Piece bytes
slot_of (item.Round r) = slot.Round r
