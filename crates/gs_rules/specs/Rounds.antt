-- What a peer does, round by round, by what it is given and by what its neighbours say to it.
use Rattle.std.specs.Prelude.{◌≡◌, ◌≤◌, ℕ, zero, suc, ◌+◌, ◌*◌, ◌%◌, Bool, false, true, not, ◌&&◌, ◌||◌, nat_eq, nat_lt, if◌then◌else◌, List, [], ◌∷◌, ◌++◌, length, map, filter, Option, Some, None}
use Rattle.std.specs.List.{flat_map, zip, AllByRecursion, AllZip}
use Rattle.gs_base.specs.declared.names.PeerNo.{PeerNo}
use Rattle.gs_base.specs.declared.names.Millis.{Millis}
use Rattle.gs_base.specs.declared.rpc.Rpc.{Rpc}
use Rattle.gs_plan.specs.declared.plan.Line.{Line}
use Rattle.gs_plan.specs.declared.plan.Act.{Act}
use Rattle.gs_wire.specs.declared.frames.End.{End}
use Rattle.gs_wire.specs.declared.frames.End.TheVariants as ends
use Rattle.gs_rules.specs.declared.event.Event.{Event}
use Rattle.gs_rules.specs.declared.event.Event.TheVariants as events
use Rattle.gs_rules.specs.declared.event.Loss.TheVariants as losses
use Rattle.gs_rules.specs.declared.refusal.Refusal.{Refusal}
use Rattle.gs_rules.specs.declared.refusal.RefusedLine.{RefusedLine}
use Rattle.gs_rules.specs.Peers.{Peer, links_of}
use Rattle.gs_rules.specs.Tables.{Entries}
use Rattle.gs_rules.specs.Legal.{Comes, Legal, hearing, losing}
use Rattle.gs_rules.specs.Refusals.{refusal}
use Rattle.gs_wire.specs.Codec.{codec}
use Rattle.gs_wire.specs.Joining.{joined_options, joined_rpcs}
use Rattle.gs_rules.specs.Saying.{Said, SaysOnlyFrames, gathered, handled, out, raw_to, sent}
use Rattle.gs_rules.specs.Hearing.{Inbound, ComesIn, ComesAfter}

-- ---- what a peer is given

-- What a peer is given in a run.
pub record Seat : Type 0 where
  pub number : PeerNo
  pub peer : Peer
  -- its own lines of the script with their places there, in file order
  pub lines : List (ℕ × Line)
  -- the length of a round in milliseconds, and the number of the last one
  pub round_ms : ℕ
  pub rounds : ℕ
  -- for how many milliseconds it had been up when round 0 began
  pub phase_ms : ℕ

-- Where a peer is: in a round, or after the last one.
pub data Phase : Type 0 where
  Playing : ℕ → Phase
  Closing : Phase

-- the moment of a round
abbrev pub moment_of : Seat → Phase → Millis
moment_of seat (Playing r) = record { 0 = r * seat.round_ms }
moment_of seat Closing = record { 0 = seat.rounds * seat.round_ms }

-- for how long the peer has been up at the moment of a round
abbrev pub clock_of : Seat → ℕ → Millis
clock_of seat r = record { 0 = r * seat.round_ms + seat.phase_ms }

-- ---- what there is to do

pub data Todo : Type 0 where
  Hear : PeerNo → Rpc → Todo
  -- a neighbour's bytes spell no RPC, or end inside one
  HearFault : PeerNo → Todo
  -- a neighbour has closed its link
  HearGone : PeerNo → Todo
  -- the line of the script at this place
  Obey : ℕ → Act → Todo
  -- a step of the decay of scores
  DecayCounters : Todo
  -- a heartbeat
  Beat : Todo
  EndRound : ℕ → Todo
  Stop : Todo

abbrev pub is_fault : End → Bool
is_fault ends.Waits = false
is_fault ends.Malformed = true
is_fault ends.TooLong = true

-- bytes that spell no RPC, or a close after bytes that were not read
abbrev pub is_broken : Inbound → Bool
is_broken x = is_fault x.end || (x.closes && not (nat_eq (length x.rest) 0))

-- how hearing a neighbour ends in a round
abbrev pub ending : PeerNo → Inbound → List Todo
ending q x = if is_broken x then HearFault q ∷ [] else if x.closes then HearGone q ∷ [] else []

abbrev pub hears_of : PeerNo → Inbound → List Todo
hears_of q x = map (Hear q) x.rpcs ++ ending q x

-- what comes from each neighbour, one neighbour after the other
abbrev pub hears : List PeerNo → List Inbound → List Todo
hears qs xs = flat_map (λ y. hears_of y.0 y.1) (zip qs xs)

-- the lines of a round, in file order
abbrev pub is_at : ℕ → ℕ × Line → Bool
is_at r x = nat_eq x.1.at r

abbrev pub obey : ℕ × Line → Todo
obey x = Obey x.0 x.1.what

abbrev pub lines_at : Seat → ℕ → List Todo
lines_at seat r = map obey (filter (is_at r) seat.lines)

-- whether something with this period in milliseconds is due in a round, by how long a peer has been up: never in the first one
abbrev pub is_due : ℕ → ℕ → Millis → Bool
is_due every r clock = nat_lt 0 r && nat_eq (clock.0 % every) 0

-- a step of decay, if one is due
abbrev pub decays_in : Peer → ℕ → Millis → List Todo
decays_in p r clock = if is_due p.params.timing.decay_ms r clock then DecayCounters ∷ [] else []

-- a heartbeat, if one is due
abbrev pub beats_in : Peer → ℕ → Millis → List Todo
beats_in p r clock = if is_due p.params.timing.heartbeat_ms r clock then Beat ∷ [] else []

-- In a round a peer hears what came and follows its lines. It lowers its counters and has a heartbeat, each if it is due,
-- and ends the round. After the last round it shuts down, and then hears what still comes.
abbrev pub agenda : Seat → Phase → List Inbound → List Todo
agenda seat (Playing r) xs =
    hears (links_of seat.peer) xs
    ++ (lines_at seat r
    ++ (decays_in seat.peer r (clock_of seat r)
    ++ (beats_in seat.peer r (clock_of seat r) ++ EndRound r ∷ [])))
agenda seat Closing xs = Stop ∷ hears (links_of seat.peer) xs

-- ---- how it is done

abbrev pub unless_refused : Event → Option Refusal → Option Event
unless_refused event None = Some event
unless_refused event (Some why) = None

-- No line puts raw bytes on q's link, whether they are frames or not. A line that is refused counts, too; one with no bytes
-- does not.
abbrev pub PutsNoBytes : PeerNo → List (ℕ × Line) → Type 0
PutsNoBytes q lines = AllByRecursion (λ (x : ℕ × Line). raw_to q (events.Own x.1.what) ≡ []) lines

-- the event that a thing to do opens after a trace, if any
abbrev pub opening : Peer → Entries → Millis → Todo → Option Event
opening p L at (Hear q rpc) = Some (hearing L q rpc)
opening p L at (HearFault q) = losing L q (events.Lost q losses.Fault)
opening p L at (HearGone q) = losing L q (events.Lost q losses.Gone)
opening p L at (Obey place what) = unless_refused (events.Own what) (refusal p L at.0 (events.Own what))
opening p L at DecayCounters = Some events.Decay
opening p L at Beat = Some events.BeatBegin
opening p L at (EndRound r) = Some (events.RoundEnd r)
opening p L at Stop = Some events.Shut

abbrev pub note_of : Millis → ℕ → Option Refusal → List RefusedLine
note_of at place None = []
note_of at place (Some why) = record { at = at; line = place; why = why } ∷ []

-- what is noted about it after a trace, if it is refused
abbrev pub noted : Peer → Entries → Millis → Todo → List RefusedLine
noted p L at (Obey place what) = note_of at place (refusal p L at.0 (events.Own what))
noted p L at (Hear q rpc) = []
noted p L at (HearFault q) = []
noted p L at (HearGone q) = []
noted p L at DecayCounters = []
noted p L at Beat = []
noted p L at (EndRound r) = []
noted p L at Stop = []

-- these things are done in order, at one moment, and this is refused
abbrev pub Does : Peer → Millis → List Todo → Entries → Entries → List RefusedLine → Type 0
Does p at [] K L refused = (L ≡ K) × (refused ≡ [])
Does p at (todo ∷ todos) K L refused =
    (M : Entries) × (later : List RefusedLine)
    × Comes p at (opening p K at todo) K M
    × Does p at todos M L later
    × (refused ≡ noted p K at todo ++ later)

-- ---- rounds

-- what there is to hear in a phase from one neighbour that says this
abbrev pub ComesAt : Seat → Phase → Said → Inbound → Type 0
ComesAt seat (Playing r) w x = ComesIn r w x
ComesAt seat Closing w x = ComesAfter seat.rounds w x

-- In a phase a peer does all that there is to do, if its neighbours say this.
pub record Plays (seat : Seat) (said : PeerNo → Said) (phase : Phase)
    (K L : Entries) (refused : List RefusedLine) : Type 0 where
  pub inbound : List Inbound
  pub was_said : AllZip (λ q x. ComesAt seat phase (said q) x) (links_of seat.peer) inbound
  pub does : Does seat.peer (moment_of seat phase) (agenda seat phase inbound) K L refused

-- It is done up to this, which is left.
pub record PlaysInPart (seat : Seat) (said : PeerNo → Said) (phase : Phase) (left : List Todo)
    (K L : Entries) (refused : List RefusedLine) : Type 0 where
  pub inbound : List Inbound
  pub was_said : AllZip (λ q x. ComesAt seat phase (said q) x) (links_of seat.peer) inbound
  pub done : List Todo
  pub split : agenda seat phase inbound ≡ done ++ left
  pub does : Does seat.peer (moment_of seat phase) done K L refused

-- the trace after this many rounds, and what was refused in them
abbrev pub AfterRounds : Seat → (PeerNo → Said) → ℕ → Entries → List RefusedLine → Type 0
AfterRounds seat said zero L refused = (L ≡ []) × (refused ≡ [])
AfterRounds seat said (suc r) L refused =
    (K : Entries) × (earlier : List RefusedLine) × (more : List RefusedLine)
    × AfterRounds seat said r K earlier
    × Plays seat said (Playing r) K L more
    × (refused ≡ earlier ++ more)

-- rounds are 0 to the last
abbrev pub IsPhaseOf : Seat → Phase → Type 0
IsPhaseOf seat (Playing r) = r ≤ seat.rounds
IsPhaseOf seat Closing = Unit {0}

-- how many rounds come before a phase
abbrev pub rounds_before : Seat → Phase → ℕ
rounds_before seat (Playing r) = r
rounds_before seat Closing = suc seat.rounds

-- So far: the rounds before this phase, and what is done of it.
pub record KeepsSoFar (seat : Seat) (said : PeerNo → Said) (phase : Phase) (left : List Todo)
    (L : Entries) (refused : List RefusedLine) : Type 0 where
  pub phase_is : IsPhaseOf seat phase
  pub start : Entries
  pub earlier : List RefusedLine
  pub more : List RefusedLine
  pub begun : AfterRounds seat said (rounds_before seat phase) start earlier
  pub part : PlaysInPart seat said phase left start L more
  pub all_refused : refused ≡ earlier ++ more

-- What was handled from q, joined, is what a legal trace sends, joined, except for what it has gathered and not yet put
-- out. This holds for each legal trace that puts only frames on this link, if q says what the trace says.
abbrev pub HandlesWhatIsSent : Seat → (PeerNo → Said) → Entries → PeerNo → Type 0
HandlesWhatIsSent seat said L q =
    (other : Peer) (K : Entries)
    → Legal other K
    → SaysOnlyFrames seat.number K
    → said q ≡ out codec K seat.number
    → joined_options (joined_rpcs (handled L q)) (gathered codec K seat.number) ≡ joined_rpcs (sent K seat.number)

-- A peer's whole run: the rounds 0 to the last, and the close.
pub record KeepsRounds (seat : Seat) (said : PeerNo → Said) (L : Entries) (refused : List RefusedLine) : Type 0 where
  pub last : Entries
  pub played : AfterRounds seat said (suc seat.rounds) last refused
  pub closed : Plays seat said Closing last L []
