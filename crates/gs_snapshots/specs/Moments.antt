-- The moments at which scores are reported: a peer's heartbeats, its decays and its shutdown, after what it did then.
use Rattle.std.specs.Prelude.{ℕ, ◌/◌, List, [], ◌∷◌, Option, Some, None, codes, reverse}
use Rattle.std.specs.List.{flat_map}
use Rattle.gs_base.specs.declared.names.PeerNo.{PeerNo}
use Rattle.gs_plan.specs.declared.plan.Plan.{Plan}
use Rattle.gs_rules.specs.declared.event.Event.{Event}
use Rattle.gs_rules.specs.declared.event.Event.TheVariants.{Heard, Late, BeatBegin, Decay, RoundEnd, Shut, Part, Step, Own, Lost}
use Rattle.gs_rules.specs.declared.trace.Entry.{Entry}
use Rattle.gs_rules.specs.Tables.{Entries}
use Rattle.gs_snapshots.specs.declared.moments.Moment.{Moment}
use Rattle.gs_snapshots.specs.declared.moments.Occasion.{Occasion}
use Rattle.gs_snapshots.specs.declared.moments.Occasion.TheVariants as occasion

-- why scores are reported at an event, if they are
abbrev pub occasion_of : Event → Option Occasion
occasion_of (Heard q rpc) = None
occasion_of (Late q rpc) = None
occasion_of (Part q part) = None
occasion_of BeatBegin = Some occasion.Heartbeat
occasion_of (Step step) = None
occasion_of (Own act) = None
occasion_of (Lost q loss) = None
occasion_of Decay = Some occasion.Decay
occasion_of (RoundEnd r) = None
occasion_of Shut = Some occasion.Shutdown

-- the word of an occasion, which is the word of its event
abbrev pub occasion_word : Occasion → List ℕ
occasion_word occasion.Heartbeat = codes "heartbeat"
occasion_word occasion.Decay = codes "decay"
occasion_word occasion.Shutdown = codes "shut"

-- the moment of an entry of a peer, in the round of its time
abbrev pub moment_of : Plan → PeerNo → Entry → Occasion → Moment
moment_of plan p e o = record { peer = p; round = e.at.0 / plan.round_ms; at = e.at; occasion = o }

-- a moment with the trace as it was after it, the newest entry first
abbrev pub with_trace : Plan → PeerNo → Entry → Entries → Option Occasion → List (Moment × Entries)
with_trace plan p e L None = []
with_trace plan p e L (Some o) = (moment_of plan p e o, e ∷ L) ∷ []

-- the moment of the newest entry of a trace, if scores are reported then
abbrev pub newest_moment : Plan → PeerNo → Entries → List (Moment × Entries)
newest_moment plan p [] = []
newest_moment plan p (e ∷ L) = with_trace plan p e L (occasion_of e.event)

-- a trace after each of its entries, the longest first
abbrev pub traces_so_far : Entries → List Entries
traces_so_far [] = []
traces_so_far (e ∷ L) = (e ∷ L) ∷ traces_so_far L

-- the moments of a peer's trace, the oldest first, each with the trace as it was after it
abbrev pub moments : Plan → PeerNo → Entries → List (Moment × Entries)
moments plan p L = flat_map (newest_moment plan p) (reverse (traces_so_far L))
