-- How what contracts see of a link's ends is made of the ends' fields.
use Rattle.std.specs.Prelude.{◌≡◌, ℕ, Bool, true}
use Rattle.crossbeam_queue.specs.Passes.{Pass, view as known}
use Rattle.gs_link.specs.declared.item.Slot.{Slot}
use Rattle.gs_link.specs.declared.rule.Account.{Account}
use Rattle.gs_link.specs.Runs.{closes}
use Rattle.gs_link.specs.Ends.{SendingEnd, TakingEnd}

-- made of the capacity of the queue, and of the pass
abbrev pub sending_end : ℕ → Pass Slot Account → SendingEnd
sending_end capacity pass = record { link = pass.table_id; capacity = capacity; accepted = (known pass).accepted }

abbrev pub taking_end : ℕ → Pass Slot Account → TakingEnd
taking_end capacity pass = record { link = pass.table_id; capacity = capacity; taken = (known pass).taken }

-- the pass may send, and the flag says whether it closed
abbrev pub Sends : Account → Bool → Type 0
Sends v closed = (v.sends ≡ true) × (closes v.accepted ≡ closed)

-- the pass may take, and the flag says whether it took the close
abbrev pub Takes : Account → Bool → Type 0
Takes v closed = (v.takes ≡ true) × (closes v.taken ≡ closed)
