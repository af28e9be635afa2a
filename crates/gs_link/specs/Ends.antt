-- What contracts see of a link's two ends, and what they say about calls of these.
use Rattle.std.specs.Prelude.{◌≡◌, ℕ, Bool, true, false, List, [], ◌∷◌, ◌++◌, length, ⊤, if◌then◌else◌, Result, Err}
use Rattle.atomic_table.specs.Seated.{TableId}
use Rattle.gs_link.specs.declared.item.Item.{Item}
use Rattle.gs_link.specs.declared.item.Slot.{Slot}
use Rattle.gs_link.specs.declared.item.Slot.TheVariants.{Close}
use Rattle.gs_link.specs.declared.fault.SendRefused.{SendRefused}
use Rattle.gs_link.specs.declared.fault.SendRefused.TheVariants as send
use Rattle.gs_link.specs.declared.fault.CloseRefused.{CloseRefused}
use Rattle.gs_link.specs.declared.fault.CloseRefused.TheVariants as close
use Rattle.gs_link.specs.declared.receiver.Taken.{Taken}
use Rattle.gs_link.specs.declared.receiver.Taken.TheVariants as took
use Rattle.gs_link.specs.Runs.{closes, RunWithin}

-- which link it is, by the memory of its queue: the two ends that one `open_link` returns have the same identity
abbrev pub LinkId : Type 0
LinkId = TableId

-- The sending end: its link, how many slots may wait there, and all that it accepted.
pub record SendingEnd : Type 0 where
  pub link : LinkId
  pub capacity : ℕ
  pub accepted : List Slot

-- The taking end: its link, how many slots may wait there, and all that was taken.
pub record TakingEnd : Type 0 where
  pub link : LinkId
  pub capacity : ℕ
  pub taken : List Slot

-- ---- send and close

-- at one moment the number of slots that waited was the capacity, and they were the last that were accepted
abbrev pub FoundFull : SendingEnd → Type 0
FoundFull end =
    (taken : List Slot) × (waiting : List Slot)
    × (length waiting ≡ end.capacity)
    × RunWithin end.capacity end.accepted taken waiting

-- the item that a refusal hands back
abbrev pub handed_back : SendRefused → Item
handed_back (send.Closed item) = item
handed_back (send.Full item) = item

-- the answer to `send` says that the link is full
abbrev pub send_found_full : Result (Unit {0}) SendRefused → Bool
send_found_full (Err (send.Full item)) = true
send_found_full other = false

-- the answer to `send` says that this end has closed
abbrev pub send_found_closed : Result (Unit {0}) SendRefused → Bool
send_found_closed (Err (send.Closed item)) = true
send_found_closed other = false

-- the answer to `close` says that the link is full, or that this end has closed before
abbrev pub close_found_full : Result (Unit {0}) CloseRefused → Bool
close_found_full (Err close.Full) = true
close_found_full other = false

abbrev pub close_found_closed : Result (Unit {0}) CloseRefused → Bool
close_found_closed (Err close.Closed) = true
close_found_closed other = false

-- ---- take

-- P holds for the item in an answer of `take`, if there is one
abbrev pub IfGot : Taken → (Item → Type 0) → Type 0
IfGot (took.Got item) P = P item
IfGot other P = ⊤

-- the answer to `take` says that nothing waits
abbrev pub take_found_empty : Taken → Bool
take_found_empty took.Empty = true
take_found_empty other = false

-- the answer to `take` says that the link has no more items
abbrev pub take_found_closed : Taken → Bool
take_found_closed took.Closed = true
take_found_closed other = false

-- what was taken, with the close after it where it has none yet
abbrev pub with_close : List Slot → List Slot
with_close slots = if closes slots then slots else slots ++ Close ∷ []
