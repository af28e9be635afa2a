-- What peers score their neighbours, and when: at each heartbeat, decay and shutdown, after what the peer did then. A decay
-- brings counters nearer to 0, so that scores are also looked at just before it.
use Rattle.std.specs.Prelude.{Bool, true, false, if◌then◌else◌, List, [], ◌∷◌, ◌++◌, filter, map}
use Rattle.std.specs.List.{flat_map}
use Rattle.gs_base.specs.declared.names.Millis.{Millis}
use Rattle.gs_base.specs.declared.names.PeerNo.{PeerNo}
use Rattle.gs_plan.specs.declared.plan.Plan.{Plan}
use Rattle.gs_rules.specs.declared.event.Event.{Event}
use Rattle.gs_rules.specs.declared.event.Event.TheVariants.{Heard, Late, BeatBegin, Decay, RoundEnd, Shut, Part, Step, Own, Lost}
use Rattle.gs_rules.specs.declared.trace.Entry.{Entry}
use Rattle.gs_rules.specs.Scoring.{score}
use Rattle.gs_rules.specs.Tables.{Entries}
use Rattle.gs_report.specs.declared.finished.Finished.{Finished}
use Rattle.gs_report.specs.declared.report.Report.{Report}
use Rattle.gs_reach.specs.declared.chosen.Chosen.{Chosen}
use Rattle.gs_reach.specs.Chosen.{is_chosen}
use Rattle.gs_seats.specs.Rounds.{neighbours, peer_in}
use Rattle.gs_opinions.specs.declared.opinion.Opinion.{Opinion}
use Rattle.gs_opinions.specs.declared.traces.Look.{Look}
use Rattle.gs_opinions.specs.declared.traces.Look.TheVariants.{After, Around, Never}

-- when scores are looked at, by the event
abbrev pub look_at : Event → Look
look_at BeatBegin = After
look_at Decay = Around
look_at Shut = After
look_at (Heard q rpc) = Never
look_at (Late q rpc) = Never
look_at (Part q part) = Never
look_at (Step step) = Never
look_at (Own act) = Never
look_at (Lost q loss) = Never
look_at (RoundEnd r) = Never

abbrev pub is_before : Look → Bool
is_before Around = true
is_before After = false
is_before Never = false

abbrev pub is_after : Look → Bool
is_after Around = true
is_after After = true
is_after Never = false

-- what a peer scores a neighbour after a trace, the newest entry first
abbrev pub opinion_of : Plan → PeerNo → Entries → Millis → PeerNo → Opinion
opinion_of plan p L at q = record { by = p; of = q; score = score (peer_in plan p) L at.0 q; at = at }

-- each neighbour, ascending
abbrev pub opinions_at : Plan → PeerNo → Entries → Millis → List Opinion
opinions_at plan p L at = map (opinion_of plan p L at) (neighbours plan p)

-- the opinions just before an entry that follows a trace, at the entry's moment
abbrev pub opinions_before : Plan → PeerNo → Entry → Entries → List Opinion
opinions_before plan p e L = if is_before (look_at e.event) then opinions_at plan p L e.at else []

-- the opinions after that entry
abbrev pub opinions_after : Plan → PeerNo → Entry → Entries → List Opinion
opinions_after plan p e L = if is_after (look_at e.event) then opinions_at plan p (e ∷ L) e.at else []

abbrev pub entry_opinions : Plan → PeerNo → Entry → Entries → List Opinion
entry_opinions plan p e L = opinions_before plan p e L ++ opinions_after plan p e L

-- the opinions in a trace of a peer, from the oldest entry on
abbrev pub trace_opinions : Plan → PeerNo → Entries → List Opinion
trace_opinions plan p [] = []
trace_opinions plan p (e ∷ L) = trace_opinions plan p L ++ entry_opinions plan p e L

-- the opinions at entries that come after a trace, the oldest of them first
abbrev pub later_opinions : Plan → PeerNo → List Entry → Entries → List Opinion
later_opinions plan p [] L = []
later_opinions plan p (e ∷ es) L = entry_opinions plan p e L ++ later_opinions plan p es (e ∷ L)

abbrev pub peer_opinions : Plan → PeerNo × Finished → List Opinion
peer_opinions plan x = trace_opinions plan x.0 x.1.trace

-- a peer is chosen
abbrev pub is_of : Chosen → PeerNo × Finished → Bool
is_of chosen x = is_chosen chosen x.0

-- all opinions of those that are chosen, peer by peer
abbrev pub opinions_by : Plan → Chosen → List (PeerNo × Finished) → List Opinion
opinions_by plan by peers = flat_map (peer_opinions plan) (filter (is_of by) peers)

-- all such opinions in a run
abbrev pub opinions : Plan → Report → Chosen → List Opinion
opinions plan report by = opinions_by plan by report.peers.items
