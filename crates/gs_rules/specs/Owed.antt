-- What must come next. An event may owe others: after an RPC was heard, its parts follow, and a heartbeat mends the meshes
-- and the fanouts, gossips and ends. What is owed comes in groups, and a group holds what there is when it is reached.
use Rattle.std.specs.Prelude.{ℕ, Bool, true, false, if◌then◌else◌, List, [], ◌∷◌, ◌++◌, drop, filter, map}
use Rattle.gs_base.specs.declared.names.PeerNo.{PeerNo}
use Rattle.gs_base.specs.declared.names.Topic.{Topic}
use Rattle.gs_base.specs.declared.names.MsgId.{MsgId}
use Rattle.gs_base.specs.declared.rpc.Rpc.{Rpc}
use Rattle.gs_rules.specs.declared.event.Event.{Event}
use Rattle.gs_rules.specs.declared.event.Event.TheVariants.{Heard, Late, BeatBegin, Decay, RoundEnd, Shut, Part, Step, Own, Lost}
use Rattle.gs_rules.specs.declared.event.BeatStep.TheVariants.{MeshBeat, GossipBeat, BeatEnd}
use Rattle.gs_rules.specs.declared.trace.Entry.{Entry}
use Rattle.gs_rules.specs.Peers.{Peer}
use Rattle.gs_rules.specs.Parts.{parts}
use Rattle.gs_rules.specs.Tables.{Entries, own_topics}
use Rattle.gs_rules.specs.Meshes.{fanout_topics, mesh_topics}
use Rattle.gs_rules.specs.BeatRules.{fan_event}
use Rattle.gs_rules.specs.Scoring.{is_graylisted}
use Rattle.gs_rules.specs.Gossip.{gossip}

-- ---- groups

-- Events that are owed together.
pub data Group : Type 0 where
  -- the parts of an RPC
  PartsOf : PeerNo → Rpc → Group
  -- the meshes that a heartbeat mends
  MeshBeats : Group
  -- the fanouts that a heartbeat at this moment mends or ends
  FanBeats : ℕ → Group
  -- the gossip of a heartbeat, and its end
  Gossips : Group

-- there is something to gossip on a topic
abbrev pub is_some_list : List MsgId → Bool
is_some_list [] = false
is_some_list (id ∷ ids) = true

-- the topics on which a peer gossips: those that have a mesh or a fanout, and on which there is something, ascending
abbrev pub gossip_topics : Peer → Entries → List Topic
gossip_topics p L = filter (λ t. is_some_list (gossip p L t)) (mesh_topics L)

-- a heartbeat gossips on these topics, and ends
abbrev pub beats : List Topic → List Event
beats topics = map (λ t. Step (GossipBeat t)) topics ++ (Step BeatEnd) ∷ []

-- the events of a group that is reached after this trace
abbrev pub events_in : Peer → Entries → Group → List Event
events_in p L (PartsOf q rpc) = parts q rpc
events_in p L MeshBeats = map (λ t. Step (MeshBeat t)) (own_topics L)
events_in p L (FanBeats at) = map (fan_event p L at) (fanout_topics L)
events_in p L Gossips = beats (gossip_topics p L)

-- What a heartbeat does at a moment, in order. It mends the mesh of each topic that the peer is subscribed to, then it
-- mends or ends each fanout. It gossips on each topic on which there is something, and then ends. Within a group topics
-- ascend (gossipsub v1.0, "Heartbeat").
abbrev pub heartbeat_groups : ℕ → List Group
heartbeat_groups at = MeshBeats ∷ FanBeats at ∷ Gossips ∷ []

-- The groups that an event owes if it comes after this trace at a moment. An RPC from a neighbour on the graylist owes
-- nothing (gossipsub v1.1, Peer Scoring, "Score Thresholds").
abbrev pub owes : Peer → Entries → ℕ → Event → List Group
owes p L at (Heard q rpc) = if is_graylisted p L at q then [] else PartsOf q rpc ∷ []
owes p L at BeatBegin = heartbeat_groups at
owes p L at (Late q rpc) = []
owes p L at (Part q part) = []
owes p L at (Step step) = []
owes p L at (Own act) = []
owes p L at (Lost q loss) = []
owes p L at Decay = []
owes p L at (RoundEnd r) = []
owes p L at Shut = []

-- ---- debts

-- What must come next: what is left of the group that was reached, and the groups after it.
pub record Debt : Type 0 where
  pub events : List Event
  pub groups : List Group

abbrev pub nothing : Debt
nothing = record { events = []; groups = [] }

-- a group's events and the groups after it; where it holds none, something else
abbrev pub held_or : List Event → List Group → Debt → Debt
held_or [] groups otherwise = otherwise
held_or (event ∷ events) groups otherwise = record { events = event ∷ events; groups = groups }

-- the first of these groups that holds an event when it is reached
abbrev pub reached : Peer → Entries → List Group → Debt
reached p L [] = nothing
reached p L (group ∷ groups) = held_or (events_in p L group) groups (reached p L groups)

-- one event less; after the last one of a group the next group is reached
abbrev pub paid : Peer → Entries → Debt → Debt
paid p L debt = held_or (drop 1 debt.events) debt.groups (reached p L debt.groups)

-- after this trace, where its last event owed these groups, and this had to come before that
abbrev pub owing : Peer → Entries → List Group → Debt → Debt
owing p L [] before = paid p L before
owing p L (group ∷ groups) before = reached p L (group ∷ groups)

-- what must come after an entry that follows this trace, where this had to come before it
abbrev pub owed_after : Peer → Entries → Entry → Debt → Debt
owed_after p L e before = owing p (e ∷ L) (owes p L e.at.0 e.event) before

-- what must come next
abbrev pub owed : Peer → Entries → Debt
owed p [] = nothing
owed p (e ∷ L) = owed_after p L e (owed p L)
