-- What waits to go to each neighbour.
use Rattle.std.specs.Prelude.{◌≡◌, ◌⊎◌, ℕ, suc, Bool, false, List, [], ◌∷◌, ◌++◌, Option, None, option_map, unwrap_or, if◌then◌else◌}
use Rattle.std.specs.List.{list_any}
use Rattle.std.specs.Map.{lookup}
use Rattle.gs_base.specs.declared.names.PeerNo.{PeerNo}
use Rattle.gs_base.specs.declared.rpc.Rpc.{Rpc}
use Rattle.gs_base.specs.Names.{same_peer}
use Rattle.gs_wire.specs.Codec.{codec}
use Rattle.gs_rules.specs.declared.trace.Entry.{Entry}
use Rattle.gs_rules.specs.Tables.{up_after}
use Rattle.gs_rules.specs.Saying.{Outgoing, behind_entry}
use Rattle.gs_link.specs.Flat.{flat}
use Rattle.gs_link.specs.declared.item.Slot.{Slot}
use Rattle.gs_peer.specs.declared.outbox.Outbox.{Outbox}
use Rattle.gs_peer.specs.declared.outboxes.Outboxes.{Outboxes}

-- the outbox of a peer, where it has one
abbrev pub box_of : Outboxes → PeerNo → Option Outbox
box_of out q = lookup (same_peer q) out.boxes.entries

-- the place of a peer's outbox in the order of the neighbours, or the number of neighbours where it has none
abbrev pub place_in : List (PeerNo × Outbox) → PeerNo → ℕ
place_in [] q = 0
place_in (x ∷ xs) q = if same_peer q x.0 then 0 else suc (place_in xs q)

abbrev pub place_of : Outboxes → PeerNo → ℕ
place_of out q = place_in out.boxes.entries q

-- what waits for a peer, or nothing where it has no outbox
abbrev pub waiting : Outboxes → PeerNo → List Slot
waiting out q = unwrap_or (option_map (λ (box : Outbox). box.slots) (box_of out q)) []

-- the RPC that is gathered for a peer, after what waits
abbrev pub gathered_in : Outboxes → PeerNo → Option Rpc
gathered_in out q = unwrap_or (option_map (λ (box : Outbox). box.gathered) (box_of out q)) None

-- what is to go to a peer
abbrev pub outgoing_in : Outboxes → PeerNo → Outgoing
outgoing_in out q = record { said = flat (waiting out q); gathered = gathered_in out q }

-- what is to go out from an outbox
abbrev pub outgoing_of : Outbox → Outgoing
outgoing_of box = record { said = flat box.slots; gathered = box.gathered }

-- more may be said to a peer
abbrev pub is_open : Outboxes → PeerNo → Bool
is_open out q = unwrap_or (option_map (λ (box : Outbox). box.is_open) (box_of out q)) false

-- a peer stands among these neighbours
abbrev pub is_neighbour : List PeerNo → PeerNo → Bool
is_neighbour neighbours q = list_any (λ n. same_peer n q) neighbours

-- whether more may be said to q after these entries, from the first to the last
abbrev pub opens_after : PeerNo → Bool → List Entry → Bool
opens_after q may [] = may
opens_after q may (e ∷ es) = opens_after q (up_after q e.event may) es

-- what is to go to q after these entries, from the first to the last
abbrev pub after_entries : PeerNo → Bool → Outgoing → List Entry → Outgoing
after_entries q may o [] = o
after_entries q may o (e ∷ es) = after_entries q (up_after q e.event may) (if may then behind_entry codec q o e else o) es

-- nothing more is accepted, or one slot
abbrev pub AcceptsOne : List Slot → List Slot → Type 0
AcceptsOne before after = (after ≡ before) ⊎ ((slot : Slot) × (after ≡ before ++ slot ∷ []))
