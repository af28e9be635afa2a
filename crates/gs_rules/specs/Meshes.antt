-- The meshes and fanouts of topics, and who must not be grafted yet, by a trace (gossipsub v1.0, "Router State"; v1.1,
-- "Prune Backoff").
use Rattle.std.specs.Prelude.{ℕ, ◌+◌, nat_le, max, Bool, false, not, ◌&&◌, ◌||◌, if◌then◌else◌, List, [], ◌∷◌, ◌++◌, filter, Option, Some, None, is_some}
use Rattle.std.specs.List.{list_any}
use Rattle.gs_base.specs.declared.names.PeerNo.{PeerNo}
use Rattle.gs_base.specs.declared.names.Topic.{Topic}
use Rattle.gs_base.specs.declared.names.MsgId.{MsgId}
use Rattle.gs_base.specs.declared.mark.Mark.{Mark}
use Rattle.gs_base.specs.declared.mark.Mark.TheVariants.{Seen, First, Near, Grafted, Pruned, Fanned, Unfanned, Backoff, Published}
use Rattle.gs_base.specs.Names.{same_id, same_peer, same_topic}
use Rattle.gs_mesh.specs.Peers.{put_in, without}
use Rattle.gs_rules.specs.declared.event.Event.{Event}
use Rattle.gs_rules.specs.Events.{of_act, of_step}
use Rattle.gs_rules.specs.declared.event.BeatStep.TheVariants.{FanEnd, MeshBeat, FanBeat, GossipBeat, BeatEnd}
use Rattle.gs_rules.specs.declared.event.BeatStep.{BeatStep}
use Rattle.gs_plan.specs.declared.plan.Act.{Act}
use Rattle.gs_plan.specs.declared.plan.Act.TheVariants.{Subscribe, Unsubscribe, Publish, Raw, HangUp}
use Rattle.gs_rules.specs.Tables.{Entries, after_marks, ascending, joined, known}

-- ---- who is in

-- what a mark leaves of who is in the mesh of a topic
abbrev pub mesh_after : Topic → Mark → List PeerNo → List PeerNo
mesh_after t (Grafted q u) before = if same_topic u t then put_in q before else before
mesh_after t (Pruned q u) before = if same_topic u t then without q before else before
mesh_after t other before = before

-- who is in the mesh of a topic, ascending: each peer that entered it, and has not left it since
abbrev pub mesh : Entries → Topic → List PeerNo
mesh [] t = []
mesh (e ∷ L) t = after_marks (mesh_after t) e.effects.marks (mesh L t)

abbrev pub dropped_by_act : {A : Type 0} → Topic → A → Act → A → A
dropped_by_act t none (Subscribe u) before = if same_topic u t then none else before
dropped_by_act t none (Unsubscribe u) before = before
dropped_by_act t none (Publish u payload) before = before
dropped_by_act t none (Raw q bytes) before = before
dropped_by_act t none (HangUp q) before = before

abbrev pub dropped_by_step : {A : Type 0} → Topic → A → BeatStep → A → A
dropped_by_step t none (MeshBeat u) before = before
dropped_by_step t none (FanBeat u) before = before
dropped_by_step t none (FanEnd u) before = if same_topic u t then none else before
dropped_by_step t none (GossipBeat u) before = before
dropped_by_step t none BeatEnd before = before

-- subscribing to a topic ends its fanout, and so does a heartbeat after the fanout's time. The latter is a separate event
-- (`FanEnd`, not `FanBeat`). So one rule judges its entry, and a table needs no `fanout_ttl_ms`.
abbrev pub dropped_after : {A : Type 0} → Topic → A → Event → A → A
dropped_after t none event before =
    of_act (λ act. dropped_by_act t none act before)
    (of_step (λ step. dropped_by_step t none step before) before event) event

-- what a mark leaves of who is in the fanout of a topic
abbrev pub fanout_after : Topic → Mark → List PeerNo → List PeerNo
fanout_after t (Fanned q u) before = if same_topic u t then put_in q before else before
fanout_after t (Unfanned q u) before = if same_topic u t then without q before else before
fanout_after t other before = before

-- who is in the fanout of a topic, ascending
abbrev pub fanout : Entries → Topic → List PeerNo
fanout [] t = []
fanout (e ∷ L) t = after_marks (fanout_after t) e.effects.marks (dropped_after t [] e.event (fanout L t))

-- when the peer last published on a topic by its fanout, for as long as that keeps the fanout
abbrev pub published_after : Topic → ℕ → Mark → Option ℕ → Option ℕ
published_after t at (Published u) before = if same_topic u t then Some at else before
published_after t at other before = before

abbrev pub last_published : Entries → Topic → Option ℕ
last_published [] t = None
last_published (e ∷ L) t =
    after_marks (published_after t e.at.0) e.effects.marks (dropped_after t None e.event (last_published L t))

-- the topics on which the peer ever published by a fanout, each once, the first one first
abbrev pub fanned_topics_after : Mark → List Topic → List Topic
fanned_topics_after (Published t) before = if list_any (same_topic t) before then before else before ++ t ∷ []
fanned_topics_after other before = before

abbrev pub ever_fanned : Entries → List Topic
ever_fanned [] = []
ever_fanned (e ∷ L) = after_marks fanned_topics_after e.effects.marks (ever_fanned L)

-- a topic has a fanout while a last publication is known for it
abbrev pub has_fanout : Entries → Topic → Bool
has_fanout L t = is_some (last_published L t)

-- a topic has a mesh, since the peer is subscribed to it, or a fanout
abbrev pub has_mesh : Entries → Topic → Bool
has_mesh L t = joined L t || is_some (last_published L t)

-- the topics that have a mesh or a fanout, if only an empty one, ascending
abbrev pub mesh_topics : Entries → List Topic
mesh_topics L = ascending (filter (has_mesh L) (known L ++ ever_fanned L))

-- those of them that have a fanout
abbrev pub fanout_topics : Entries → List Topic
fanout_topics L = filter (has_fanout L) (mesh_topics L)

-- whether a fanout's time has come at a moment: the peer has not published on the topic for this many milliseconds
abbrev pub is_stale : ℕ → ℕ → Option ℕ → Bool
is_stale ttl at None = false
is_stale ttl at (Some published) = nat_le (published + ttl) at

-- ---- who must not be grafted

-- of several ends the latest counts
abbrev pub backoff_after : PeerNo → Topic → Mark → ℕ → ℕ
backoff_after q t (Backoff p u end) before = if same_peer p q && same_topic u t then max end.0 before else before
backoff_after q t other before = before

-- before which moment a neighbour must not enter the mesh of a topic: 0 if it always may
abbrev pub backoff : Entries → PeerNo → Topic → ℕ
backoff [] q t = 0
backoff (e ∷ L) q t = after_marks (backoff_after q t) e.effects.marks (backoff L q t)

-- ---- who passed a message on

-- whether a mark says that a neighbour passed on a message, first or near the first
abbrev pub notes : MsgId → PeerNo → Mark → Bool
notes id q (First p t other) = same_peer p q && same_id other id
notes id q (Near p t other) = same_peer p q && same_id other id
notes id q other = false

-- whether a mark says that a message was seen
abbrev pub sees : MsgId → Mark → Bool
sees id (Seen other verdict) = same_id other id
sees id other = false

-- Whether a neighbour passed on a message, first or near the first, since it was marked as seen last. The order of the
-- marks of one entry does not count, since it may be any (`SaysTheSame`). An entry that marks a message as seen also says
-- who was first. It has no note of a neighbour for an earlier sighting.
abbrev pub noted : Entries → MsgId → PeerNo → Bool
noted [] id q = false
noted (e ∷ L) id q = list_any (notes id q) e.effects.marks || (not (list_any (sees id) e.effects.marks) && noted L id q)
