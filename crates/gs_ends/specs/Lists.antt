-- Ends that are lists in memory: what lies in them, and how a list of neighbours holds them.
use Rattle.std.specs.Prelude.{ℕ, suc, ◌+◌, Bool, true, false, not, ◌&&◌, ◌||◌, nat_eq, nat_le, if◌then◌else◌, List, [], ◌∷◌, length, take, drop, Some, ◌≡◌, ◌<◌, ◌^◌, map}
use Rattle.std.specs.declared.vec.Vec.{Vec}
use Rattle.std.specs.declared.alloc.Global.{Global}
use Rattle.gs_base.specs.declared.names.PeerNo.{PeerNo}
use Rattle.gs_link.specs.declared.item.Item.{Item}
use Rattle.gs_link.specs.declared.item.Slot.{Slot}
use Rattle.gs_link.specs.declared.item.Slot.TheVariants.{Close}
use Rattle.std.specs.List.{All}
use Rattle.gs_link.specs.Items.{IsSendable, slot_of}
use Rattle.gs_link.specs.Ends.{LinkId, SendingEnd}
use Rattle.gs_link.specs.Runs.{closes}
use Rattle.gs_ends.specs.Ends.{Joint}
use Rattle.gs_ends.specs.Pairs.{accepted_for, is_of, slots_with}
use Rattle.gs_ends.specs.declared.ends.Ends.{Ghosts as EndsOf}

-- the identity that stands for no link
abbrev pub no_link : LinkId
no_link = record { words = 0; slots = 0; views_name = 0; atom = 0; block = 0; offset = 0; slot_names = [] }

-- items as they lie in a link, and after them the close where there is one
abbrev pub as_slots : List Item → Bool → List Slot
as_slots [] closed = if closed then Close ∷ [] else []
as_slots (item ∷ items) closed = slot_of item ∷ as_slots items closed

-- an end with room for this many slots, which accepted these items, and then the close where `closed` is true
abbrev pub listed_sender : ℕ → List Item → Bool → SendingEnd
listed_sender room items closed = record { link = no_link; capacity = room; accepted = as_slots items closed }

-- What comes from a neighbour: the items that were given for it, and how many slots were taken.
pub record Incoming : Type 0 where
  pub given : List Item
  pub count : ℕ

-- all that comes: the items that were given, in order, and then the close
abbrev pub all_of : Incoming → List Slot
all_of incoming = as_slots incoming.given true

-- the slots that were taken
abbrev pub taken_of : Incoming → List Slot
taken_of incoming = take incoming.count (all_of incoming)

-- a neighbour with an end that sends to it, and what comes from it
abbrev pub Listed : Type 0
Listed = PeerNo × SendingEnd × Incoming

-- a neighbour and the items that come from it
abbrev pub Source : Type 0
Source = PeerNo × Vec Item Global

-- a neighbour's ends, before any call
abbrev pub fresh_ends : ℕ → Source → Listed
fresh_ends room source = (source.0, listed_sender room [] false, record { given = source.1.items; count = 0 })

-- a neighbour whose ends are lists: its items come, in order, and then the close
abbrev pub listed_joint : Source → Joint
listed_joint source =
    record { peer = source.0; to = no_link; from = no_link; comes = Some (as_slots source.1.items true) }

-- the neighbours from which items come, in order
abbrev pub senders_of : List Source → List PeerNo
senders_of sources = map (λ source. source.0) sources

-- what comes from a neighbour may be sent
abbrev pub BringsSendable : Source → Type 0
BringsSendable source = All IsSendable source.1.items

-- Ends that are lists: each neighbour with its ends, and how puts are counted.
pub record ListedEnds : Type 0 where
  pub lists : List Listed
  -- each put whose count is a multiple of this is refused, and none where it is 0
  pub every : ℕ
  -- how many puts were counted after the last such one
  pub count : ℕ

-- ---- what contracts see of the ends

abbrev pub joint_in_lists : Listed → Joint
joint_in_lists ends = record { peer = ends.0; to = ends.1.link; from = no_link; comes = Some (all_of ends.2) }

-- which neighbours a list has, and what comes from each
abbrev pub joints_listed : List Listed → List Joint
joints_listed lists = map joint_in_lists lists

-- all that was taken from a neighbour
abbrev pub taken_listed : List Listed → PeerNo → List Slot
taken_listed lists q = slots_with (λ ends. taken_of ends.2) lists q

-- the same two for ends, and all that was accepted for a neighbour
abbrev pub joints_in_lists : ListedEnds → List Joint
joints_in_lists ends = joints_listed ends.lists

abbrev pub accepted_in_lists : ListedEnds → PeerNo → List Slot
accepted_in_lists ends q = accepted_for ends.lists q

abbrev pub taken_in_lists : ListedEnds → PeerNo → List Slot
taken_in_lists ends q = taken_listed ends.lists q

-- all three, as contracts see them of any ends
abbrev pub list_ends : EndsOf ListedEnds
list_ends = record { joints = joints_in_lists; accepted = accepted_in_lists; taken = taken_in_lists }

-- ---- which puts are refused

-- one more put is counted: whether it is the last of `every`, and how many puts were counted after the last such one
abbrev pub counted : ℕ → ℕ → Bool × ℕ
counted every count =
    if nat_eq every 0 then (false, count) else if nat_le every (count + 1) then (true, 0) else (false, count + 1)

-- how many slots the end to a neighbour accepts, or 0 where there is no such neighbour
abbrev pub room_for : List Listed → PeerNo → ℕ
room_for [] q = 0
room_for (ends ∷ lists) q = if is_of q ends then ends.1.capacity else room_for lists q

-- the end refuses a put: it has not accepted the close, and the put is unwanted or there is no room for it
abbrev pub refuses : SendingEnd → Bool → Bool
refuses end unwanted = not (closes end.accepted) && (unwanted || nat_le end.capacity (length end.accepted))

-- A put to a neighbour is answered `Full`. Its close is not accepted, and either the put is the last of `every`, or there is no
-- room for it.
abbrev pub is_answered_full : ListedEnds → PeerNo → Bool
is_answered_full ends q =
    not (closes (accepted_in_lists ends q))
    && ((counted ends.every ends.count).0 || nat_le (room_for ends.lists q) (length (accepted_in_lists ends q)))

-- the count after a put to a neighbour: a put that follows its close is not counted
abbrev pub count_after : ListedEnds → PeerNo → ℕ
count_after ends q = if closes (accepted_in_lists ends q) then ends.count else (counted ends.every ends.count).1

-- Room and `every` stay as they are, and the count is then `after`.
pub record KeepsRoom (old new : ListedEnds) (after : ℕ) : Type 0 where
  pub every : new.every ≡ old.every
  pub count : new.count ≡ after
  pub rooms : (q : PeerNo) → room_for new.lists q ≡ room_for old.lists q

-- ---- what is left of the items that come from a neighbour

-- how many slots were taken, from how many items were taken and whether the close was
abbrev pub slots_taken : ℕ → Bool → ℕ
slots_taken items closed = if closed then suc items else items

-- The first items were taken, `taken` in number, and the rest is left. Each that is left may be sent. The close comes last.
pub record IsRest (taken : ℕ) (closed : Bool) (all left : List Item) : Type 0 where
  pub rest : left ≡ drop taken all
  pub count : taken + length left ≡ length all
  pub bounded : length all < 2 ^ 64
  pub sized : All IsSendable left
  pub last : closed ≡ true → left ≡ []
