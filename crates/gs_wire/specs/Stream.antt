-- Streams of frames. A frame is a varint length, and then a body of this length. A stream is described as a whole, so it
-- doesn't matter how it was cut into pieces.
use Rattle.std.specs.Prelude.{◌≡◌, ℕ, ◌-◌, ◌<◌, ◌≤◌, Bool, false, List, [], ◌∷◌, ◌++◌, length, drop, Option, Some, None, IfSome, IsSome, ◌⊎◌, ◌↔◌, Result, Err, OnOk, IsErrOf}
use Rattle.std.specs.List.{AllByRecursion}
use Rattle.gs_base.specs.declared.rpc.Rpc.{Rpc}
use Rattle.gs_wire.specs.declared.fault.WireFault.{WireFault}
use Rattle.gs_wire.specs.declared.fault.WireFault.TheVariants as faults
use Rattle.gs_wire.specs.declared.frames.End.{End}
use Rattle.gs_wire.specs.declared.frames.Span.{Span}
use Rattle.gs_wire.specs.declared.frames.End.TheVariants as ends
use Rattle.gs_wire.specs.Varint.{IsVarint}
use Rattle.gs_wire.specs.Messages.{SpellsRpc, longest_body}

-- The text is one frame of the RPC, with its length in any spelling and a body within the limit.
pub record SpellsFrame (limit : ℕ) (text : List ℕ) (v : Rpc) : Type 0 where
  pub len : List ℕ
  pub body : List ℕ
  pub parts : text ≡ len ++ body
  pub spells_len : IsVarint len (length body)
  pub within : length body ≤ limit
  pub spells_body : SpellsRpc body v

-- The text is one frame of each RPC, in order.
abbrev pub SpellFrames : ℕ → List ℕ → List Rpc → Type 0
SpellFrames limit text [] = text ≡ []
SpellFrames limit text (v ∷ vs) =
    (one : List ℕ) × (rest : List ℕ)
    × (text ≡ one ++ rest)
    × SpellsFrame limit one v
    × SpellFrames limit rest vs

-- The bytes begin with a length, and go on with the rest.
pub record HasLength (bytes : List ℕ) (n : ℕ) (rest : List ℕ) : Type 0 where
  pub len : List ℕ
  pub parts : bytes ≡ len ++ rest
  pub spells : IsVarint len n

-- The bytes are the front of a length, or nothing.
abbrev pub BeginsLength : List ℕ → Type 0
BeginsLength bytes = (length bytes < 10) × AllByRecursion (λ b. 128 ≤ b) bytes

-- How a stream goes on after its whole frames. It waits for more of a frame, or a length is above the limit, or no length or
-- no RPC stands there.
abbrev pub GoesOn : ℕ → List ℕ → End → Type 0
GoesOn limit rest ends.Waits = BeginsLength rest
    ⊎ ((n : ℕ) × (more : List ℕ) × HasLength rest n more × (n ≤ limit) × (length more < n))
GoesOn limit rest ends.TooLong = (n : ℕ) × (more : List ℕ) × HasLength rest n more × (limit < n)
GoesOn limit rest ends.Malformed = (¬ (BeginsLength rest) × ((n : ℕ) (more : List ℕ) → ¬ (HasLength rest n more)))
    ⊎ ((body : List ℕ) × (more : List ℕ) × HasLength rest (length body) (body ++ more)
    × (length body ≤ limit) × ((v : Rpc) → ¬ (SpellsRpc body v)))

-- The stream is the frames of these RPCs, and then the rest, which goes on as `end` says.
pub record IsStream (limit : ℕ) (bytes : List ℕ) (vs : List Rpc) (rest : List ℕ) (end : End) : Type 0 where
  pub front : List ℕ
  pub parts : bytes ≡ front ++ rest
  pub frames : SpellFrames limit front vs
  pub goes_on : GoesOn limit rest end

-- The length at the front says that the body stands from start to end. The bytes of the body may have come or not.
pub record IsSpan (limit : ℕ) (bytes : List ℕ) (start end : ℕ) : Type 0 where
  pub begun : start ≤ length bytes
  pub ordered : start ≤ end
  pub within : end - start ≤ limit
  pub says : HasLength bytes (end - start) (drop start bytes)

-- ---- a reader

-- How many bytes of the frame at the front have not come. It is 0 where the length of that frame is not known.
abbrev pub missing_of : Option Span → ℕ → ℕ
missing_of None held = 0
missing_of (Some span) held = span.end - held

-- What a reader keeps of the length at the front of the bytes that it holds. After a fault it keeps none.
pub record AwaitsBody (limit : ℕ) (held : List ℕ) (next : Option Span) (missing : ℕ) (failed : Bool) : Type 0 where
  pub low : limit ≤ longest_body
  pub right : IfSome next (λ span. IsSpan limit held span.start span.end)
  pub counted : missing ≡ missing_of next (length held)
  pub sound : IsSome next → failed ≡ false

-- What a reader holds: the bytes of an unfinished frame, or nothing after a fault.
pub record Holding : Type 0 where
  pub limit : ℕ
  pub held : Option (List ℕ)

abbrev pub held_after : End → List ℕ → Option (List ℕ)
held_after ends.Waits rest = Some rest
held_after ends.TooLong rest = None
held_after ends.Malformed rest = None

-- A feed of the piece adds the RPCs of one stream, which is what was held and then the piece. It goes on as `end` says.
pub record Feeds (old : Holding) (piece : List ℕ) (new : Holding) (before after : List Rpc) (end : End) : Type 0 where
  pub held : List ℕ
  pub was_held : old.held ≡ Some held
  pub found : List Rpc
  pub rest : List ℕ
  pub stream : IsStream old.limit (held ++ piece) found rest end
  pub added : after ≡ before ++ found
  pub keeps : new ≡ record { limit = old.limit; held = held_after end rest }

-- How a feed of the piece ends, by its result. RPCs that were added before a fault of the stream stay added. If the reader
-- failed before, or was out of memory, nothing changes.
pub record EndsFeed (old : Holding) (piece : List ℕ) (new : Holding) (before after : List Rpc)
    (result : Result (Unit {0}) WireFault) : Type 0 where
  pub fed : OnOk result (Feeds old piece new before after ends.Waits)
  pub malformed : IsErrOf result faults.Malformed → Feeds old piece new before after ends.Malformed
  pub too_long : IsErrOf result faults.TooLong → Feeds old piece new before after ends.TooLong
  pub failed : (result ≡ Err faults.Failed) ↔ (old.held ≡ None)
  pub failed_reader : result ≡ Err faults.Failed → new ≡ old
  pub failed_list : result ≡ Err faults.Failed → after ≡ before
  pub no_memory_reader : result ≡ Err faults.NoMemory → new ≡ old
  pub no_memory_list : result ≡ Err faults.NoMemory → after ≡ before

-- What a reader that held these bytes finds in the pieces that it is fed, one after the other, and how the last feed ended.
-- After a fault it finds nothing more.
abbrev pub FindsAfter : End → Type 0 → List Rpc → End → Type 0
FindsAfter ends.Waits later more end = later
FindsAfter ends.TooLong later more end = (more ≡ []) × (end ≡ ends.TooLong)
FindsAfter ends.Malformed later more end = (more ≡ []) × (end ≡ ends.Malformed)

abbrev pub FindsIn : ℕ → List ℕ → List (List ℕ) → List Rpc → End → Type 0
FindsIn limit held [] vs end = (vs ≡ []) × (end ≡ ends.Waits)
FindsIn limit held (piece ∷ pieces) vs end =
    (found : List Rpc) × (rest : List ℕ) × (first : End) × (more : List Rpc)
    × IsStream limit (held ++ piece) found rest first
    × (vs ≡ found ++ more)
    × FindsAfter first (FindsIn limit rest pieces more end) more end

-- One call of a feed, and what it adds: the reader reads what was held and then the piece. After a fault the call changes
-- nothing.
abbrev pub FeedsOnce : Holding → List ℕ → Holding → List Rpc → Type 0
FeedsOnce old piece new found =
    ((end : End) × Feeds old piece new [] found end)
    ⊎ ((old.held ≡ None) × (new ≡ old) × (found ≡ []))

-- Feeds of pieces, one after the other, and everything that they add.
abbrev pub FeedsAll : Holding → List (List ℕ) → Holding → List Rpc → Type 0
FeedsAll old [] new vs = (new ≡ old) × (vs ≡ [])
FeedsAll old (piece ∷ pieces) new vs =
    (middle : Holding) × (found : List Rpc) × (more : List Rpc)
    × FeedsOnce old piece middle found
    × FeedsAll middle pieces new more
    × (vs ≡ found ++ more)

-- A reader that was fed these bytes has found the RPCs of their stream, and holds the unread end. After a fault it holds
-- nothing.
pub record HasRead (limit : ℕ) (bytes : List ℕ) (reader : Holding) (vs : List Rpc) : Type 0 where
  pub rest : List ℕ
  pub end : End
  pub stream : IsStream limit bytes vs rest end
  pub holds : reader ≡ record { limit = limit; held = held_after end rest }
