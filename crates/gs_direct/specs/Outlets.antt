-- What an outlet knows about what goes to a neighbour, and what it hands over at the end of a round.
use Rattle.std.specs.Prelude.{◌≡◌, ◌<◌, ℕ, Bool, true, false, ◌||◌, ◌&&◌, nat_eq, if◌then◌else◌, List, [], ◌∷◌, ◌++◌, length, reverse, Option, None, Some, IfSome, is_none, is_some, unwrap_or}
use Rattle.std.specs.List.{flat_map, AllByRecursion}
use Rattle.gs_base.specs.declared.names.PeerNo.{PeerNo}
use Rattle.gs_base.specs.declared.rpc.Rpc.{Rpc}
use Rattle.gs_base.specs.Names.{same_peer}
use Rattle.gs_base.specs.Tokens.{Close, bytes_of}
use Rattle.gs_wire.specs.Codec.{codec}
use Rattle.gs_wire.specs.Messages.{IsInMemory, longest_body}
use Rattle.gs_wire.specs.Stream.{FeedsOnce, Holding, HasRead}
use Rattle.gs_rules.specs.declared.trace.Entry.{Entry}
use Rattle.gs_rules.specs.declared.event.Event.{Event}
use Rattle.gs_rules.specs.Tables.{Entries, up, up_after}
use Rattle.gs_rules.specs.Saying.{Outgoing, is_cut, behind_entry, behind_event, cut_out, outgoing, saying}
use Rattle.gs_direct.specs.declared.letter.Letter.{Letter}
use Rattle.gs_direct.specs.declared.letter.Ending.{Ending}
use Rattle.gs_direct.specs.declared.letter.Ending.TheVariants.{Fault, Gone}
use Rattle.gs_direct.specs.declared.outlet.Outlet.{Outlet}

-- ---- what is written

-- it fits a frame, its body fits in memory, and each backoff is a number of 64 bits
abbrev pub IsWritten : Rpc → Type 0
IsWritten rpc = (codec.fits rpc ≡ true) × IsInMemory rpc

abbrev pub SendsWritten : List (PeerNo × Rpc) → Type 0
SendsWritten sends = AllByRecursion (λ x. IsWritten x.1) sends

abbrev pub AllWritten : List Entry → Type 0
AllWritten entries = AllByRecursion (λ (e : Entry). SendsWritten e.effects.sends) entries

-- ---- the bytes of a link

-- What is held of what goes over the link. Until raw bytes are put there, all frames are whole, and nothing is held.
abbrev pub reader_of : Outlet → Holding
reader_of o = unwrap_or o.reader (record { limit = longest_body; held = Some [] })

-- The outlet agrees with what goes to the neighbour. It has gathered the same RPC. In all bytes that were said, its reader
-- found the earlier RPCs before this round, and then the outlet's RPCs in this round.
pub record Carries (o : Outlet) (goes : Outgoing) (earlier : List Rpc) : Type 0 where
  pub gathers : o.gathered ≡ goes.gathered
  pub written : IfSome goes.gathered IsWritten
  pub read : HasRead longest_body (bytes_of goes.said) (reader_of o) (earlier ++ o.rpcs.items)

-- What goes to the neighbour becomes this, and the outlet changes with it.
pub record Follows (f : Outgoing → Outgoing) (old new : Outlet) : Type 0 where
  pub to : new.to ≡ old.to
  pub is_over : new.is_over ≡ old.is_over
  pub is_open : new.is_open ≡ old.is_open
  pub carries : (goes : Outgoing) (earlier : List Rpc) → Carries old goes earlier → Carries new (f goes) earlier

-- An outlet to this neighbour, to which nothing was said.
pub record IsNew (to : PeerNo) (o : Outlet) : Type 0 where
  pub to_is : o.to ≡ to
  pub is_open : o.is_open ≡ true
  pub gathered : o.gathered ≡ None
  pub reader : reader_of o ≡ record { limit = longest_body; held = Some [] }
  pub rpcs : o.rpcs.items ≡ []
  pub is_over : o.is_over ≡ false

-- the bytes are read next, and the RPCs that are whole after that are added
abbrev pub ReadsOn : Holding → List ℕ → Holding → List Rpc → List Rpc → Type 0
ReadsOn old bytes new before after = (found : List Rpc) × FeedsOnce old bytes new found × (after ≡ before ++ found)

-- Where the neighbour is lost, what is gathered goes out and the outlet is closed. Otherwise nothing changes.
pub record Closes (is_lost : Bool) (old new : Outlet) : Type 0 where
  pub to : new.to ≡ old.to
  pub is_over : new.is_over ≡ old.is_over
  pub is_open : new.is_open ≡ (if is_lost then false else old.is_open)
  pub carries : (goes : Outgoing) (earlier : List Rpc)
      → Carries old goes earlier
      → Carries new (if is_lost then saying (cut_out codec goes) (Close ∷ []) else goes) earlier

-- The neighbour is sent what an event says.
pub record Tells (event : Event) (old new : Outlet) : Type 0 where
  pub to : new.to ≡ old.to
  pub is_over : new.is_over ≡ old.is_over
  pub is_open : new.is_open ≡ up_after old.to event true
  pub carries : (goes : Outgoing) (earlier : List Rpc)
      → Carries old goes earlier → Carries new (behind_event codec old.to goes event) earlier

-- ---- entries

-- what goes to the neighbour after an entry; nothing more where the outlet is closed
abbrev pub goes_after : Outlet → Entry → Outgoing → Outgoing
goes_after o e goes = if o.is_open then behind_entry codec o.to goes e else goes

-- The neighbour is sent what an entry says.
pub record Says (e : Entry) (old new : Outlet) : Type 0 where
  pub to : new.to ≡ old.to
  pub is_over : new.is_over ≡ old.is_over
  pub is_open : new.is_open ≡ up_after old.to e.event old.is_open
  pub carries : (goes : Outgoing) (earlier : List Rpc)
      → Carries old goes earlier → Carries new (goes_after old e goes) earlier

-- The neighbour is sent what these entries say, the first entry first, after any trace.
pub record SaysAll (entries : List Entry) (old new : Outlet) : Type 0 where
  pub to : new.to ≡ old.to
  pub is_over : new.is_over ≡ old.is_over
  pub is_open : (K : Entries) → old.is_open ≡ up K old.to → new.is_open ≡ up (reverse entries ++ K) old.to
  pub carries : (K : Entries) (earlier : List Rpc)
      → old.is_open ≡ up K old.to
      → Carries old (outgoing codec K old.to) earlier
      → Carries new (outgoing codec (reverse entries ++ K) old.to) earlier

-- it says nothing to any neighbour
pub record IsSilent (e : Entry) : Type 0 where
  pub sends : e.effects.sends ≡ []
  pub cuts : (q : PeerNo) → is_cut q e.event ≡ false

-- ---- the end of a round

-- How the peer's side of the link ends, where the ending is not sent yet. Bytes that spell no RPC are a fault, and so is a
-- close within a frame.
abbrev pub ending_of : Outlet → Option Ending
ending_of o =
    if o.is_over then None
    else if is_none (reader_of o).held then Some Fault
    else if o.is_open then None
    else if nat_eq (length (unwrap_or (reader_of o).held [])) 0 then Some Gone
    else Some Fault

-- the letter of a round, and none where there is nothing to say
abbrev pub letters_of : PeerNo → Outlet → List Letter
letters_of from o =
    if nat_eq (length o.rpcs.items) 0 && is_none (ending_of o) then []
    else record { from = from; rpcs = o.rpcs; ending = ending_of o } ∷ []

-- the letter is handed over, and its ending is sent once
pub record IsHandedOver (old new : Outlet) : Type 0 where
  pub to : new.to ≡ old.to
  pub is_open : new.is_open ≡ old.is_open
  pub reader : reader_of new ≡ reader_of old
  pub gathered : new.gathered ≡ old.gathered
  pub rpcs : new.rpcs.items ≡ []
  pub is_over : new.is_over ≡ (old.is_over || is_some (ending_of old))

-- what all outlets give to a peer
abbrev pub given : PeerNo → List Outlet → PeerNo → List Letter
given from outlets p = flat_map (λ (o : Outlet). if same_peer o.to p then letters_of from o else []) outlets

-- its neighbour is one of `count` peers
abbrev pub Within : ℕ → Outlet → Type 0
Within count o = o.to.0 < count
