-- What contracts see of a router, and how its calls end.
use Rattle.std.specs.Prelude.{◌≡◌, ℕ, Bool, true, false, if◌then◌else◌, Option, Some, None, Result, Ok, Err}
use Rattle.gs_base.specs.declared.names.Millis.{Millis}
use Rattle.gs_rules.specs.declared.event.Event.{Event}
use Rattle.gs_rules.specs.declared.event.Event.TheVariants.{Heard, Late, Part, BeatBegin, Step, Own, Lost, Decay, RoundEnd, Shut}
use Rattle.gs_rules.specs.declared.refusal.Refusal.{Refusal}
use Rattle.gs_rules.specs.declared.refusal.Refusal.TheVariants.{Stopped}
use Rattle.gs_rules.specs.Peers.{Peer}
use Rattle.gs_rules.specs.Tables.{Entries}
use Rattle.gs_rules.specs.Modes.{Mode}
use Rattle.gs_rules.specs.Legal.{Legal, Comes}
use Rattle.gs_rules.specs.Refusals.{refusal}
use Rattle.gs_rules.specs.Refusals as refusals
use Rattle.gs_router.specs.declared.fault.RouterFault.{RouterFault}
use Rattle.gs_router.specs.declared.fault.RouterFault.TheVariants.{Refused, NoMemory}
use Rattle.gs_router.specs.declared.state.State.{State}
use Rattle.gs_router.specs.Known.{peer_with}
use Rattle.gs_router.specs.State.{IsReady, Appends, BreaksOff}

-- what it was given, what it did, and whether it ran out of memory
pub record RouterView : Type 0 where
  pub peer : Peer
  pub trace : Entries
  pub is_stopped : Bool

abbrev pub view_of : {K : Type 0} → State K → Bool → RouterView
view_of s is_stopped = record { peer = peer_with s.known.setup; trace = s.trace; is_stopped = is_stopped }

-- the trace is legal, and it may go on until the router runs out of memory
pub record IsSound {K : Type 0} (s : State K) (is_stopped : Bool) : Type 0 where
  pub legal : Legal (peer_with s.known.setup) s.trace
  pub ready : is_stopped ≡ false → IsReady s

-- the number of a fault, as docs/REFUSALS.md lists it
abbrev pub number_of : RouterFault → ℕ
number_of (Refused why) = refusals.number_of why
number_of NoMemory = 20

-- why a call for an event, or for none, is refused: after the router ran out of memory, every call is
abbrev pub refusal_if : Peer → Entries → ℕ → Option Event → Option Refusal
refusal_if p L at None = None
refusal_if p L at (Some event) = refusal p L at event

abbrev pub refusal_of : RouterView → ℕ → Option Event → Option Refusal
refusal_of v at event = if v.is_stopped then Some Stopped else refusal_if v.peer v.trace at event

-- ---- events

-- an event that needs only that the peer has not shut down, and owes nothing
abbrev pub IsPlain : Event → Type 0
IsPlain Decay = Unit {0}
IsPlain (RoundEnd r) = Unit {0}
IsPlain Shut = Unit {0}
IsPlain (Heard q rpc) = ⊥
IsPlain (Late q rpc) = ⊥
IsPlain (Part q part) = ⊥
IsPlain BeatBegin = ⊥
IsPlain (Step step) = ⊥
IsPlain (Own act) = ⊥
IsPlain (Lost q loss) = ⊥

-- ---- how a call ends

-- if memory ran out: nothing came, or an entry of the event and some of what it owes; without an event this cannot happen
abbrev pub Breaks : Peer → Millis → Option Event → Entries → Entries → Type 0
Breaks p now None K L = ⊥
Breaks p now (Some event) K L = BreaksOff p now event K L

-- The event came with all that it owes, by choices that lead from s to t.
pub record Done (m : Mode) (event : Option Event) (now : Millis)
    (old : RouterView) (s : m.State) (new : RouterView) (t : m.State) : Type 0 where
  pub free : refusal_of old now.0 event ≡ None
  pub comes : Comes old.peer now event old.trace new.trace
  pub appended : Appends m old.peer old.trace s new.trace t
  pub running : new.is_stopped ≡ false

-- The call is refused for the first reason that there is. Nothing changes, and nothing is chosen.
pub record Declined (m : Mode) (why : Refusal) (event : Option Event) (now : Millis)
    (old : RouterView) (s : m.State) (new : RouterView) (t : m.State) : Type 0 where
  pub first : refusal_of old now.0 event ≡ Some why
  pub unchanged : new ≡ old
  pub undrawn : t ≡ s

-- Memory ran out. The trace ends with the last whole entry, and choices led up to it. From now on every call is refused.
pub record BrokenOff (m : Mode) (event : Option Event) (now : Millis)
    (old : RouterView) (s : m.State) (new : RouterView) : Type 0 where
  pub free : refusal_of old now.0 event ≡ None
  pub breaks : Breaks old.peer now event old.trace new.trace
  pub appended : (u : m.State) × Appends m old.peer old.trace s new.trace u
  pub stopped : new.is_stopped ≡ true

abbrev pub Answers : {A : Type 0} → (m : Mode) → Option Event → Millis
    → RouterView → m.State → Result A RouterFault → RouterView → m.State → Type 0
Answers m event now old s (Ok x) new t = Done m event now old s new t
Answers m event now old s (Err (Refused why)) new t = Declined m why event now old s new t
Answers m event now old s (Err NoMemory) new t = BrokenOff m event now old s new

-- How a call for an event, or for none, ends.
pub record Calls {A : Type 0} (m : Mode) (event : Option Event) (now : Millis)
    (old : RouterView) (s : m.State) (result : Result A RouterFault) (new : RouterView) (t : m.State) : Type 0 where
  pub answer : Answers m event now old s result new t
  -- what the router was given stays
  pub peer : new.peer ≡ old.peer
  -- its whole trace is legal
  pub legal : Legal new.peer new.trace

-- what a call answers, depending on how its work ended
abbrev pub answer_of : {A E : Type 0} → Result A E → Result A RouterFault
answer_of (Ok x) = Ok x
answer_of (Err e) = Err NoMemory

abbrev pub fails : {A E : Type 0} → Result A E → Bool
fails (Ok x) = false
fails (Err e) = true
