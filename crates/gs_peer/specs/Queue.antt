-- How slots wait in a queue.
use Rattle.std.specs.Prelude.{ℕ, List, [], ◌∷◌}
use Rattle.gs_link.specs.declared.item.Slot.{Slot}
use Rattle.gs_link.specs.declared.item.Slot.TheVariants.{Piece}

-- what is left of a frame waits before the other slots
abbrev pub ahead : List ℕ → List Slot → List Slot
ahead [] slots = slots
ahead (byte ∷ bytes) slots = Piece (byte ∷ bytes) ∷ slots
