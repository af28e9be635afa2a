-- A router's tables say what its trace says.
use Rattle.std.specs.Prelude.{◌≡◌, ◌≤◌, ◌<◌, ◌-◌, ℕ, min, Bool, true, false, not, ◌||◌, if◌then◌else◌, List, [], length, filter, Option, Some, None, is_some, option_map, unwrap_or, nat_lt}
use Rattle.std.specs.Ordering.{is_eq}
use Rattle.std.specs.List.{list_any}
use Rattle.std.specs.Map.{lookup}
use Rattle.gs_base.specs.declared.names.PeerNo.{PeerNo}
use Rattle.gs_base.specs.declared.names.Topic.{Topic}
use Rattle.gs_base.specs.declared.names.MsgId.{MsgId}
use Rattle.gs_base.specs.declared.names.Millis.{Millis}
use Rattle.gs_base.specs.Names.{same_peer, same_topic, same_id}
use Rattle.gs_base.specs.declared.verdict.Verdict.{Verdict}
use Rattle.gs_base.specs.declared.mark.Mark.{Mark}
use Rattle.gs_base.specs.declared.mark.Mark.TheVariants as marks
use Rattle.gs_base.specs.Rpcs.{most_identifiers}
use Rattle.gs_cache.specs.declared.seen.sighting.Sighting.{Sighting as Found}
use Rattle.gs_cache.specs.Sightings.{is_noted, verdict_in, what_counts}
use Rattle.gs_cache.specs.CachedMessages.{Cached, cached, left}
use Rattle.gs_mesh.specs.Meshes as meshes
use Rattle.gs_score.specs.Histories as histories
use Rattle.gs_rules.specs.declared.event.Event.{Event}
use Rattle.gs_rules.specs.declared.trace.Entry.{Entry}
use Rattle.gs_rules.specs.Peers.{Peer, seen_ttl, windows}
use Rattle.gs_rules.specs.Tables.{Entries, Keeping, Sighting, after_marks, answered, asked, heartbeats, is_shut, joined, keeping, keeping_order, kept, known, last_kept, last_moment, last_seen, offers, on, promises, seen, topic_order, up}
use Rattle.gs_rules.specs.Meshes.{backoff, dropped_after, fanout, last_published, mesh, noted, notes}
use Rattle.gs_rules.specs.Scoring.{history, setting_of}
use Rattle.gs_router.specs.declared.peer_set.PeerSet.{PeerSet}
use Rattle.gs_router.specs.declared.tables.own_topics.OwnTopics.{OwnTopics}
use Rattle.gs_router.specs.declared.tables.listeners.Listeners.{Listeners}
use Rattle.gs_router.specs.declared.tables.sightings.Sightings.{Sightings}
use Rattle.gs_router.specs.declared.tables.kept_messages.Messages.{Messages}
use Rattle.gs_router.specs.declared.tables.budgets.Budget.{Budget}
use Rattle.gs_router.specs.declared.tables.budgets.Budgets.{Budgets}
use Rattle.gs_router.specs.declared.tables.promises.Promises.{Promises}
use Rattle.gs_router.specs.declared.tables.standings.Standings.{Standings}
use Rattle.gs_router.specs.declared.tables.memberships.Memberships.{Memberships}
use Rattle.gs_router.specs.declared.tables.mesh_topics.MeshOrFanout.{MeshOrFanout}
use Rattle.gs_router.specs.declared.tables.mesh_topics.MeshTopics.{MeshTopics}
use Rattle.gs_router.specs.declared.tables.beats.Beats.{Beats}
use Rattle.gs_router.specs.declared.tables.neighbours.Neighbours.{Neighbours}
use Rattle.gs_router.specs.declared.tables.Tables.{Tables}
use Rattle.gs_router.specs.PeerSets.{has}

-- an entry without its marks
abbrev pub unmarked : Entry → Entry
unmarked e = record e { effects = record e.effects { marks = [] } }

-- ---- the router's own topics

-- whether the router is subscribed to a topic, if it ever was
abbrev pub kept_topic : OwnTopics → Topic → Option Bool
kept_topic own t = lookup (λ u. is_eq (topic_order t u)) own.topics.entries

pub record AgreesOnTopics (own : OwnTopics) (L : Entries) : Type 0 where
  pub knows : (t : Topic) → is_some (kept_topic own t) ≡ list_any (same_topic t) (known L)
  pub counts : length own.topics.entries ≡ length (known L)
  pub joins : (t : Topic) → unwrap_or (kept_topic own t) false ≡ joined L t

-- ---- who is on which topic

abbrev pub is_in : PeerNo → Option PeerSet → Bool
is_in q None = false
is_in q (Some set) = has set q

abbrev pub listens : Listeners → PeerNo → Topic → Bool
listens kept q t = is_in q (lookup (same_topic t) kept.topics.entries)

pub record AgreesOnListeners (kept : Listeners) (L : Entries) : Type 0 where
  pub listens : (q : PeerNo) (t : Topic) → listens kept q t ≡ on L q t

-- ---- messages

-- the verdict on a message that counts as seen at a moment, as the table has it
abbrev pub verdict_at : Sightings → MsgId → ℕ → Option Verdict
verdict_at kept id now = verdict_in (what_counts kept.cache id now)

-- What a table knows about a message and one neighbour. It knows when the message was seen last, what it was found to be,
-- and whether the neighbour was noted for it since.
pub record NeighbourSighting : Type 0 where
  pub at : ℕ
  pub verdict : Verdict
  pub noted : Bool

abbrev pub neighbour_sighting : Sightings → MsgId → PeerNo → ℕ → Option NeighbourSighting
neighbour_sighting kept id q now =
    option_map (λ (s : Found). record { at = s.at.0; verdict = s.verdict; noted = is_noted q s })
    (what_counts kept.cache id now)

-- a sighting counts for less than a given time
abbrev pub still : ℕ → ℕ → Option NeighbourSighting → Option NeighbourSighting
still ttl now None = None
still ttl now (Some s) = if nat_lt (now - s.at) ttl then Some s else None

abbrev pub sighting_noted : Bool → Sighting → NeighbourSighting
sighting_noted noted s = record { at = s.at; verdict = s.verdict; noted = noted }

-- the same, as a trace has it
abbrev pub neighbour_sighting_in : ℕ → Entries → MsgId → PeerNo → ℕ → Option NeighbourSighting
neighbour_sighting_in ttl L id q now = still ttl now (option_map (sighting_noted (noted L id q)) (last_seen L id))

-- what it is after a mark that a message was seen
abbrev pub neighbour_sighting_after : ℕ → ℕ → MsgId → ℕ → Mark → Option NeighbourSighting → Option NeighbourSighting
neighbour_sighting_after ttl now id at (marks.Seen other verdict) before =
    if same_id other id then still ttl now (Some (record { at = at; verdict = verdict; noted = false })) else before
neighbour_sighting_after ttl now id at other before = before

-- what it is after marks that say, or do not say, that the neighbour passed the message on
abbrev pub noted_if : Bool → Option NeighbourSighting → Option NeighbourSighting
noted_if noted None = None
noted_if noted (Some s) = Some (record { at = s.at; verdict = s.verdict; noted = noted || s.noted })

-- the table noted which messages were seen at a moment, as marks say
pub record Sees (at : ℕ) (marks : List Mark) (old new : Sightings) : Type 0 where
  pub tells
      : (id : MsgId) (q : PeerNo) (now : ℕ) → new.cache.moment ≤ now
      → neighbour_sighting new id q now
      ≡ after_marks (neighbour_sighting_after old.cache.ttl now id at) marks (neighbour_sighting old id q now)
  pub later : old.cache.moment ≤ new.cache.moment
  pub moment : new.cache.moment ≤ at
  pub ttl : new.cache.ttl ≡ old.cache.ttl

-- the table noted who passed on which message, as marks say
pub record PassesOn (marks : List Mark) (old new : Sightings) : Type 0 where
  pub tells
      : (id : MsgId) (q : PeerNo) (now : ℕ) → new.cache.moment ≤ now
      → neighbour_sighting new id q now ≡ noted_if (list_any (notes id q) marks) (neighbour_sighting old id q now)
  pub moment : new.cache.moment ≡ old.cache.moment
  pub ttl : new.cache.ttl ≡ old.cache.ttl

-- the table may have forgotten what no longer counts
pub record AgreesOnSightings (kept : Sightings) (L : Entries) : Type 0 where
  pub sees : (id : MsgId) (now : ℕ) → kept.cache.moment ≤ now → verdict_at kept id now ≡ seen kept.cache.ttl L id now
  pub tells
      : (id : MsgId) (q : PeerNo) (now : ℕ) → kept.cache.moment ≤ now
      → neighbour_sighting kept id q now ≡ neighbour_sighting_in kept.cache.ttl L id q now
  pub past : kept.cache.moment ≤ last_moment L

-- ---- kept messages

-- what is kept under an identifier, as the table has it
abbrev pub keeping_in : Messages → MsgId → Option Keeping
keeping_in table id =
    option_map (λ (c : Cached). record { topic = c.topic; message = c.message; age = c.age }) (cached table.cache id)

-- how many answers are left to a neighbour, of `most` at first, if a message is kept
abbrev pub left_of : ℕ → Option Keeping → ℕ → Option ℕ
left_of most keeping given = option_map (λ (k : Keeping). most - given) keeping

-- how many answers are left to a neighbour: none if no message is kept
abbrev pub answers_left : ℕ → ℕ → Entries → PeerNo → MsgId → ℕ
answers_left most len L q id = unwrap_or (left_of most (kept len L id) (answered L q id)) 0

-- Under each identifier the table has what was kept last, if that is kept still. The identifiers are in the order in which
-- each was kept last. The table also knows how often each neighbour may still get a message, by how often it got that
-- message since.
pub record HasKept (table : Messages) (last : MsgId → Option Keeping) (given : PeerNo → MsgId → ℕ) (order : List MsgId)
    : Type 0 where
  pub some : 0 < table.cache.len
  pub keeps : (id : MsgId) → keeping_in table id ≡ keeping table.cache.len (last id)
  pub leaves
      : (q : PeerNo) (id : MsgId)
      → left table.cache id q ≡ left_of table.cache.answers (keeping table.cache.len (last id)) (given q id)
  pub orders : table.cache.order ≡ filter (λ id. is_some (keeping table.cache.len (last id))) order

abbrev pub AgreesOnMessages : Messages → Entries → Type 0
AgreesOnMessages table L = HasKept table (last_kept L) (answered L) (keeping_order L)

-- the numbers with which the table was made stay
pub record IsMadeAlike (old new : Messages) : Type 0 where
  pub len : new.cache.len ≡ old.cache.len
  pub gossip : new.cache.gossip ≡ old.cache.gossip
  pub answers : new.cache.answers ≡ old.cache.answers

-- ---- budgets

-- what is left to a neighbour, as the table has it
abbrev pub budget_in : Budgets → PeerNo → Budget
budget_in table q = unwrap_or (lookup (same_peer q) table.left.entries) table.full

-- what it is after a mark
abbrev pub budget_after : PeerNo → Mark → Budget → Budget
budget_after q (marks.Offered p) before =
    if same_peer p q then record { offers = before.offers - 1; ids = before.ids } else before
budget_after q (marks.Asked p n) before =
    if same_peer p q then record { offers = before.offers; ids = before.ids - n } else before
budget_after q other before = before

-- what a neighbour has at first
abbrev pub budget_of : Peer → Budget
budget_of p = record {
  offers = p.params.timing.max_ihave;
  ids = min p.params.timing.max_ihave_ids most_identifiers;
}

-- what is left of a neighbour's budget after what its offers and requests to it counted
abbrev pub budget_left : Budget → Entries → PeerNo → Budget
budget_left full L q = record { offers = full.offers - offers L q; ids = full.ids - asked L q }

pub record AgreesOnBudgets (table : Budgets) (L : Entries) : Type 0 where
  pub leaves : (q : PeerNo) → budget_in table q ≡ budget_left table.full L q

-- ---- promises

pub record AgreesOnPromises (table : Promises) (L : Entries) : Type 0 where
  pub waits : table.waiting.items ≡ promises L

-- ---- scores

-- the standings of a peer's neighbours agree with what the trace says about them
abbrev pub AgreesOnScores : Peer → Standings → Entries → Type 0
AgreesOnScores p table L = histories.Agrees (setting_of p) table.scores (history p L)

-- ---- meshes

-- The table says who is in each mesh and in each fanout, and when the router last published on a topic without being
-- subscribed. It also says until when neighbours may not be grafted.
pub record HasMeshes (table : Memberships) (mesh fanout : Topic → List PeerNo) (published : Topic → Option ℕ)
    (backoff : PeerNo → Topic → ℕ) : Type 0 where
  pub members : (t : Topic) → meshes.members table.meshes t ≡ mesh t
  pub fans : (t : Topic) → meshes.fanout table.meshes t ≡ fanout t
  pub publishes
      : (t : Topic)
      → option_map (λ (at : Millis). at.0) (meshes.kept table.meshes t).last_published ≡ published t
  pub bars : (q : PeerNo) (t : Topic) → (meshes.backoff_until table.meshes q t).0 ≡ backoff q t

abbrev pub AgreesOnMeshes : Memberships → Entries → Type 0
AgreesOnMeshes table L = HasMeshes table (mesh L) (fanout L) (last_published L) (backoff L)

-- a topic without a mesh and without a fanout
abbrev pub neither_mesh_nor_fanout : MeshOrFanout
neither_mesh_nor_fanout = record { has_mesh = false; has_fanout = false }

-- what a topic has, as the table has it
abbrev pub mesh_or_fanout_in : MeshTopics → Topic → MeshOrFanout
mesh_or_fanout_in table t = unwrap_or (lookup (λ u. is_eq (topic_order t u)) table.topics.entries) neither_mesh_nor_fanout

-- whether a topic has a fanout after an event, and after a mark
abbrev pub dropped_by : Topic → Event → Bool → Bool
dropped_by t event before = dropped_after t false event before

abbrev pub fanned_by : Topic → Mark → Bool → Bool
fanned_by t (marks.Published u) before = if same_topic u t then true else before
fanned_by t other before = before

-- the table says which topics have a mesh, and which have a fanout
pub record HasTopics (table : MeshTopics) (meshes fanouts : Topic → Bool) : Type 0 where
  pub mesh_or_fanout : (t : Topic) → mesh_or_fanout_in table t ≡ record { has_mesh = meshes t; has_fanout = fanouts t }

abbrev pub AgreesOnMeshTopics : MeshTopics → Entries → Type 0
AgreesOnMeshTopics table L = HasTopics table (joined L) (λ t. is_some (last_published L t))

-- ---- heartbeats

pub record AgreesOnBeats (table : Beats) (L : Entries) : Type 0 where
  pub counts : table.count ≡ heartbeats L

-- ---- neighbours

pub record AgreesOnNeighbours (kept : Neighbours) (L : Entries) : Type 0 where
  pub shuts : kept.is_shut ≡ is_shut L
  pub ups : (q : PeerNo) → not (kept.is_shut || has kept.lost q) ≡ up L q

-- ---- all tables

pub record Agrees (tables : Tables) (L : Entries) : Type 0 where
  pub topics : AgreesOnTopics tables.topics L
  pub listeners : AgreesOnListeners tables.listeners L
  pub sightings : AgreesOnSightings tables.sightings L
  pub messages : AgreesOnMessages tables.messages L
  pub budgets : AgreesOnBudgets tables.budgets L
  pub promises : AgreesOnPromises tables.promises L
  pub memberships : AgreesOnMeshes tables.memberships L
  pub mesh_topics : AgreesOnMeshTopics tables.mesh_topics L
  pub beats : AgreesOnBeats tables.beats L
  pub neighbours : AgreesOnNeighbours tables.neighbours L

-- The tables were made for the setup of this peer.
pub record AreMadeFor (tables : Tables) (p : Peer) : Type 0 where
  -- for how long a message counts as seen
  pub seen_ttl : tables.sightings.cache.ttl ≡ seen_ttl p
  -- for how many heartbeats a message is kept, and for how many it is gossiped
  pub windows : tables.messages.cache.len ≡ windows p
  pub gossip : tables.messages.cache.gossip ≡ p.params.timing.mcache_gossip
  -- how often a message is sent to a neighbour that asks for it
  pub answers : tables.messages.cache.answers ≡ p.params.timing.gossip_retransmission
  -- how many offers of a neighbour count, and how many identifiers it may be asked for
  pub budget : tables.budgets.full ≡ budget_of p
