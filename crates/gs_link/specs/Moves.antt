-- The rule of a link, and the eight moves that it allows. A move is an atomic step on the queue, or a step on its passes only.
use Rattle.std.specs.Prelude.{◌≡◌, ℕ, Bool, true, false, List, [], ◌∷◌, ◌++◌}
use mathlib.Core.Option.{some}
use lib.ListN.{get_elem?}
use Rattle.gs_link.specs.declared.item.Slot.{Slot}
use Rattle.gs_link.specs.declared.rule.Account.{Account}
use Rattle.gs_link.specs.Items.{IsCarried}
use Rattle.gs_link.specs.Runs.{closes, Run}

abbrev pub account : Bool → Bool → List Slot → List Slot → Account
account sends takes accepted taken = record { sends = sends; takes = takes; accepted = accepted; taken = taken }

-- ---- the rule

-- At most one pass may send, and it has the list of what was accepted.
-- At most one pass may take, and it has the list of what was taken.
abbrev pub Fits : ℕ → ℕ → List Slot → List Slot → ℕ → Account → Type 0
Fits sender taker accepted taken pass v =
    (v.sends ≡ true → (pass ≡ sender) × (v.accepted ≡ accepted))
    × (v.takes ≡ true → (pass ≡ taker) × (v.taken ≡ taken))

-- what the passes say and what waits in the queue are together a run of the link
abbrev pub InOrder : List Slot → List Account → Type 0
InOrder waiting accounts =
    (sender : ℕ) × (taker : ℕ) × (accepted : List Slot) × (taken : List Slot)
    × Run accepted taken waiting
    × ((pass : ℕ) (v : Account) → get_elem? accounts pass ≡ some v → Fits sender taker accepted taken pass v)

-- ---- the eight moves
-- (where `FindsFull` holds, the queue also says that as many slots wait as its capacity; where `FindsEmpty` holds, that none do)

-- Make: a new link has one pass, which may send and take, and nothing was accepted or taken.
abbrev pub made : Account
made = account true true [] []

-- Split off the sender's pass: a new pass gets the right to send and the list of what was accepted. The old pass keeps the
-- rest.
abbrev pub split_sender : Account → Account × Account
split_sender v = (account false v.takes [] v.taken, account v.sends false v.accepted [])

-- Split off the receiver's pass: a new pass gets the right to take and the list of what was taken. The old pass keeps the rest.
abbrev pub split_receiver : Account → Account × Account
split_receiver v = (account v.sends false v.accepted [], account false v.takes [] v.taken)

-- Push: the pass that may send, and has not closed, puts a slot at the back of what waits and of what was accepted. The slot
-- is within its sizes.
abbrev pub Pushes : Account → Slot → Account → Type 0
Pushes v slot w =
    (v.sends ≡ true) × (closes v.accepted ≡ false) × IsCarried slot
    × (w ≡ account v.sends v.takes (v.accepted ++ slot ∷ []) v.taken)

-- Push found full: the pass that may send sees that as many slots wait as there is room for. These are the last that were
-- accepted. Nothing changes.
abbrev pub FindsFull : Account → List Slot → Type 0
FindsFull v waiting = (v.sends ≡ true) × (taken : List Slot) × Run v.accepted taken waiting

-- Pop: the pass that may take moves the front of what waits to the back of what was taken.
abbrev pub Pops : Account → Slot → Account → Type 0
Pops v slot w = (v.takes ≡ true) × IsCarried slot × (w ≡ account v.sends v.takes v.accepted (v.taken ++ slot ∷ []))

-- Pop found empty: the pass that may take sees that nothing waits. So all that was accepted was taken. Nothing changes.
abbrev pub FindsEmpty : Account → List Slot → Type 0
FindsEmpty v waiting = (v.takes ≡ true) × (accepted : List Slot) × Run accepted v.taken waiting

-- Join: the sender's pass takes in the receiver's pass, which is then spent. So it knows what was accepted and what was taken.
abbrev pub join : Account → Account → Account
join v w = account v.sends w.takes v.accepted w.taken

-- a pass that was taken in may do nothing
abbrev pub spent : Account
spent = account false false [] []

-- ---- what the joined pass sees

-- what it accepted is what it took and then what waits
abbrev pub SeesWhole : Account → List Slot → Type 0
SeesWhole v waiting = Run v.accepted v.taken waiting
