-- A run of a link: what it accepted, what was taken from it, and what waits.
use Rattle.std.specs.Prelude.{◌≡◌, ℕ, ◌≤◌, Bool, true, false, List, [], ◌∷◌, ◌++◌, length}
use Rattle.std.specs.List.{All}
use Rattle.gs_link.specs.declared.item.Slot.{Slot}
use Rattle.gs_link.specs.declared.item.Slot.TheVariants.{Piece, Round, Close}
use Rattle.gs_link.specs.Items.{IsCarried}

-- a close stands in the list
abbrev pub closes : List Slot → Bool
closes [] = false
closes (Piece bytes ∷ slots) = closes slots
closes (Round r ∷ slots) = closes slots
closes (Close ∷ slots) = true

-- nothing stands after a close, so it stands at most once
abbrev pub ClosesLast : List Slot → Type 0
ClosesLast slots = (before behind : List Slot) → slots ≡ before ++ Close ∷ behind → behind ≡ []

-- What was accepted is what was taken and then what waits. Nothing follows a close, and each slot that waits is within its sizes.
pub record Run (accepted taken waiting : List Slot) : Type 0 where
  pub in_order : accepted ≡ taken ++ waiting
  pub closed_last : ClosesLast accepted
  pub sized : All IsCarried waiting

-- A run of a link in which the slots that wait are no more than its capacity.
pub record RunWithin (capacity : ℕ) (accepted taken waiting : List Slot) : Type 0 where
  pub run : Run accepted taken waiting
  pub room : length waiting ≤ capacity
