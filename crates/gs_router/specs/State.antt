-- How the steps of a router and its work on an event end.
use Rattle.std.specs.Prelude.{◌≡◌, ◌⊎◌, List, [], ◌∷◌, ◌++◌, Result, OnOk, OnErr}
use Rattle.gs_base.specs.declared.names.Millis.{Millis}
use Rattle.gs_rules.specs.declared.event.Event.{Event}
use Rattle.gs_rules.specs.declared.trace.Entry.{Entry}
use Rattle.gs_rules.specs.Peers.{Peer}
use Rattle.gs_rules.specs.Tables.{Entries, last_moment}
use Rattle.gs_rules.specs.Owed.{Debt, Group, held_or, owed, nothing, reached}
use Rattle.gs_rules.specs.Modes.{Mode}
use Rattle.gs_rules.specs.Legal.{Legal, LegalOn, Begins, IsNext, Opens}
use Rattle.gs_router.specs.declared.state.State.{State}
use Rattle.gs_router.specs.Tables.{Agrees, AgreesOnScores, AreMadeFor}
use Rattle.gs_router.specs.Known.{IsFit, peer_with}

-- the peer that a router is
abbrev pub peer_of : {K : Type 0} → State K → Peer
peer_of s = peer_with s.known.setup

-- the trace is legal, and the tables say what it says
pub record IsCurrent {K : Type 0} (s : State K) : Type 0 where
  pub legal : Legal (peer_of s) s.trace
  pub agrees : Agrees s.known.tables s.trace
  pub scores : AgreesOnScores (peer_of s) s.known.tables.standings s.trace
  pub made : AreMadeFor s.known.tables (peer_of s)
  pub fit : IsFit s.known.setup

-- this event is owed and comes next
abbrev pub IsDue : {K : Type 0} → State K → Millis → Event → Type 0
IsDue s now event = IsNext (peer_of s) s.trace now.0 (owed (peer_of s) s.trace).events event

-- The state is current, and nothing is owed. So any event may come that may open.
pub record IsReady {K : Type 0} (s : State K) : Type 0 where
  pub current : IsCurrent s
  pub settled : owed (peer_of s) s.trace ≡ nothing

-- the new trace is the old one with more entries, which may come by choices that lead from s to t
pub record Appends (m : Mode) (p : Peer) (K : Entries) (s : m.State) (L : Entries) (t : m.State) : Type 0 where
  pub entries : List Entry
  pub are : L ≡ entries ++ K
  pub legal : LegalOn m p s K entries t

-- the new trace is the old one with one more entry, with this event and moment
pub record Adds (m : Mode) (p : Peer) (event : Event) (now : Millis)
    (K : Entries) (s : m.State) (L : Entries) (t : m.State) : Type 0 where
  pub entry : Entry
  pub added : L ≡ entry ∷ K
  pub moment : entry.at ≡ now
  pub opened : entry.event ≡ event
  pub legal : LegalOn m p s K (entry ∷ []) t

-- How a step ends: the event came by choices that lead from s to t, or memory ran out and nothing came.
pub record Steps {K A E : Type 0} (m : Mode) (event : Event) (now : Millis)
    (old : State K) (s : m.State) (result : Result A E) (new : State K) (t : m.State) : Type 0 where
  pub added : OnOk result (Adds m (peer_of old) event now old.trace s new.trace t)
  pub current : OnOk result (IsCurrent new)
  pub kept : OnErr result (new.trace ≡ old.trace)
  pub setup : new.known.setup ≡ old.known.setup

-- nothing came, or an entry of the event and some of what it owes
abbrev pub BreaksOff : Peer → Millis → Event → Entries → Entries → Type 0
BreaksOff p now event K L = (L ≡ K) ⊎ Begins p now event K L

-- How the work on an event ends. The event came with all that it owes, by choices that lead from s to t, or the work broke
-- off when memory ran out.
pub record WorkEnds {K A E : Type 0} (m : Mode) (event : Event) (now : Millis)
    (old : State K) (s : m.State) (result : Result A E) (new : State K) (t : m.State) : Type 0 where
  pub opened : OnOk result (Opens (peer_of old) now event old.trace new.trace)
  pub appended : OnOk result (Appends m (peer_of old) old.trace s new.trace t)
  pub ready : OnOk result (IsReady new)
  pub broken : OnErr result (BreaksOff (peer_of old) now event old.trace new.trace)
  -- what came before it broke off came by choices too
  pub before : OnErr result ((u : m.State) × Appends m (peer_of old) old.trace s new.trace u)
  pub legal : Legal (peer_of new) new.trace
  pub setup : new.known.setup ≡ old.known.setup

-- ---- what is owed is paid

-- these events of the current group are left, and these groups come after it
abbrev pub left_with : Peer → Entries → List Event → List Group → Debt
left_with p L events groups = held_or events groups (reached p L groups)

-- An event has begun. By choices from s to t, the trace of a got its entry, and entries for some of what it owes. These
-- events are left, and then these groups.
pub record Paying {K : Type 0} (m : Mode) (now : Millis) (event : Event) (a : State K) (s : m.State) (b : State K) (t : m.State)
    (left : List Event) (groups : List Group) : Type 0 where
  pub current : IsCurrent b
  pub setup : b.known.setup ≡ a.known.setup
  pub moment : last_moment b.trace ≡ now.0
  pub owes : owed (peer_of a) b.trace ≡ left_with (peer_of a) b.trace left groups
  pub begun : Begins (peer_of a) now event a.trace b.trace
  pub appended : Appends m (peer_of a) a.trace s b.trace t

-- these events are left, and no others, in the work on some event
abbrev pub AreLeft : {K : Type 0} → (m : Mode) → Millis → List Event → State K → m.State → Type 0
AreLeft {K} m now left b t = (event : Event) × (a : State K) × (s : m.State) × Paying m now event a s b t left []

-- in any work where just the first events were left, the second ones are left now
abbrev pub Pays : {K : Type 0} → (m : Mode) → Millis → List Event → State K → m.State → List Event → State K → m.State → Type 0
Pays {K} m now left b t rest c u =
    (event : Event) (a : State K) (s : m.State)
    → Paying m now event a s b t left []
    → Paying m now event a s c u rest []

-- The work on an event reached some state. Then memory ran out, and nothing came since.
pub record IsCutShort {K : Type 0} (m : Mode) (now : Millis) (event : Event) (a : State K) (s : m.State) (c : State K) : Type 0 where
  pub reached : State K
  pub words : m.State
  pub left : List Event
  pub paying : Paying m now event a s reached words left []
  pub kept : c.trace ≡ reached.trace
  pub setup : c.known.setup ≡ reached.known.setup

-- any work where just these events were left was cut short
abbrev pub PaysInPart : {K : Type 0} → (m : Mode) → Millis → List Event → State K → m.State → State K → Type 0
PaysInPart {K} m now left b t c =
    (event : Event) (a : State K) (s : m.State) → Paying m now event a s b t left [] → IsCutShort m now event a s c
