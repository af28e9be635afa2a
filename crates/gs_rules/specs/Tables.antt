-- What a trace says about a peer. The newest entry comes first. So each table follows from the newest entry and the table
-- before it. There is a step for the entry's event, and one for each mark if marks change the table. A new event or mark
-- needs one line in each table that it changes. A new part of an RPC, step of a heartbeat or act of the user needs a line
-- in each table that reads these.
use Rattle.std.specs.Prelude.{ℕ, ◌+◌, ◌-◌, Bool, true, false, not, ◌&&◌, ◌||◌, nat_lt, if◌then◌else◌, List, [], ◌∷◌, ◌++◌, filter, Option, Some, None, unwrap_or}
use Rattle.std.specs.List.{list_any}
use Rattle.std.specs.declared.cmp.Ordering.{Ordering}
use Rattle.std.specs.Ordering.{nat_cmp}
use Rattle.std.specs.Cmp.Lexicographic.{slice_cmp}
use Rattle.std.specs.FinMap.Entries.{by_order}
use Rattle.gs_base.specs.declared.names.PeerNo.{PeerNo}
use Rattle.gs_base.specs.declared.names.Topic.{Topic}
use Rattle.gs_base.specs.declared.names.MsgId.{MsgId}
use Rattle.gs_base.specs.Names.{same_peer, same_topic, same_id, topic_or_empty}
use Rattle.gs_base.specs.Rpcs.{unsigned}
use Rattle.gs_base.specs.declared.verdict.Verdict.{Verdict}
use Rattle.gs_base.specs.declared.mark.Mark.{Mark}
use Rattle.gs_base.specs.declared.rpc.Message.{Message}
use Rattle.gs_base.specs.declared.rpc.SubOpt.{SubOpt}
use Rattle.gs_base.specs.declared.mark.Mark.TheVariants.{Seen, Cached, Answered, Offered, Asked}
use Rattle.gs_rules.specs.declared.event.Event.{Event}
use Rattle.gs_rules.specs.declared.event.Event.TheVariants.{Heard, Late, BeatBegin, Decay, RoundEnd, Shut, Part, Step, Own, Lost}
use Rattle.gs_rules.specs.Events.{of_act, of_beginning, of_part, of_shutdown, of_step}
use Rattle.gs_rules.specs.Parts.{brought_by, subscription_in}
use Rattle.gs_rules.specs.declared.event.BeatStep.TheVariants.{BeatEnd, MeshBeat, FanBeat, FanEnd, GossipBeat}
use Rattle.gs_rules.specs.declared.event.RpcPart.{RpcPart}
use Rattle.gs_rules.specs.declared.event.BeatStep.{BeatStep}
use Rattle.gs_plan.specs.declared.plan.Act.{Act}
use Rattle.gs_plan.specs.declared.plan.Act.TheVariants.{Subscribe, Unsubscribe, Publish, HangUp, Raw}
use Rattle.gs_rules.specs.declared.trace.Promise.{Promise}
use Rattle.gs_rules.specs.declared.trace.Entry.{Entry}

-- what a peer did, the newest entry first
abbrev pub Entries : Type 0
Entries = List Entry

-- the moment of the last entry
abbrev pub last_moment : Entries → ℕ
last_moment [] = 0
last_moment (e ∷ L) = e.at.0

-- the last moment that there is, in milliseconds
abbrev pub last_millis : ℕ
last_millis = 18_446_744_073_709_551_615

-- what marks make of a table, one after the other
abbrev pub after_marks : {A : Type 0} → (Mark → A → A) → List Mark → A → A
after_marks step [] before = before
after_marks step (mark ∷ marks) before = after_marks step marks (step mark before)

-- ---- the neighbours

-- whether the peer has shut down
abbrev pub is_shut_after : Event → Bool → Bool
is_shut_after event before = of_shutdown true before event

abbrev pub is_shut : Entries → Bool
is_shut [] = false
is_shut (e ∷ L) = is_shut_after e.event (is_shut L)

-- the neighbour on which an act of the user hangs up, if any
abbrev pub lost_by : Act → Option PeerNo
lost_by (HangUp p) = Some p
lost_by (Subscribe t) = None
lost_by (Unsubscribe t) = None
lost_by (Publish t payload) = None
lost_by (Raw q bytes) = None

-- The neighbour that an event loses, if any. It closed its link, its bytes spelled no RPC or ended within one, or the peer
-- hung up on it. All that follows from such a loss reads this.
abbrev pub lost : Event → Option PeerNo
lost (Lost p loss) = Some p
lost (Own act) = lost_by act
lost (Heard q rpc) = None
lost (Late q rpc) = None
lost (Part q part) = None
lost BeatBegin = None
lost (Step step) = None
lost Decay = None
lost (RoundEnd r) = None
lost Shut = None

-- q is the one that is lost
abbrev pub is_lost : PeerNo → Option PeerNo → Bool
is_lost q None = false
is_lost q (Some p) = same_peer p q

-- an event after which q is neither heard nor sent to: it loses q, or the peer shuts down
abbrev pub cuts_off : PeerNo → Event → Bool
cuts_off q event = is_shut_after event false || is_lost q (lost event)

-- whether a neighbour is heard and sent to
abbrev pub up_after : PeerNo → Event → Bool → Bool
up_after q event before = if cuts_off q event then false else before

abbrev pub up : Entries → PeerNo → Bool
up [] q = true
up (e ∷ L) q = up_after q e.event (up L q)

-- whether a neighbour is on a topic after a change of a subscription, if there is one
abbrev pub on_by_sub : PeerNo → Topic → PeerNo → Option SubOpt → Bool → Bool
on_by_sub q t p None before = before
on_by_sub q t p (Some sub) before =
    if same_peer p q && same_topic (topic_or_empty sub.topic) t then unwrap_or sub.subscribe false else before

-- whether a neighbour is on a topic after a part of an RPC: a change of a subscription decides that again
abbrev pub on_by : PeerNo → Topic → PeerNo → RpcPart → Bool → Bool
on_by q t p part before = on_by_sub q t p (subscription_in part) before

-- whether a neighbour is on a topic: what it last said about the topic
abbrev pub on_after : PeerNo → Topic → Event → Bool → Bool
on_after q t event before = of_part (λ p part. on_by q t p part before) before event

abbrev pub on : Entries → PeerNo → Topic → Bool
on [] q t = false
on (e ∷ L) q t = on_after q t e.event (on L q t)

-- ---- the peer's own topics

abbrev pub joined_by : Topic → Act → Bool → Bool
joined_by t (Subscribe u) before = if same_topic u t then true else before
joined_by t (Unsubscribe u) before = if same_topic u t then false else before
joined_by t (Publish u payload) before = before
joined_by t (Raw q bytes) before = before
joined_by t (HangUp q) before = before

-- whether the peer is subscribed to a topic
abbrev pub joined_after : Topic → Event → Bool → Bool
joined_after t event before = of_act (λ act. joined_by t act before) before event

abbrev pub joined : Entries → Topic → Bool
joined [] t = false
joined (e ∷ L) t = joined_after t e.event (joined L t)

abbrev pub known_by : Act → List Topic → List Topic
known_by (Subscribe t) before = if list_any (same_topic t) before then before else before ++ t ∷ []
known_by (Unsubscribe t) before = before
known_by (Publish t payload) before = before
known_by (Raw q bytes) before = before
known_by (HangUp q) before = before

-- the topics that the peer was ever subscribed to, each once, the first one first
abbrev pub known_after : Event → List Topic → List Topic
known_after event before = of_act (λ act. known_by act before) before event

abbrev pub known : Entries → List Topic
known [] = []
known (e ∷ L) = known_after e.event (known L)

-- the order of topics is that of their bytes
abbrev pub topic_order : Topic → Topic → Ordering
topic_order t u = slice_cmp nat_cmp t.0 u.0

-- a topic at its place among others that ascend; if it is there already, it stays there once
abbrev pub placed : Topic → List Topic → List Topic
placed t [] = t ∷ []
placed t (u ∷ us) = by_order (topic_order t u) (t ∷ u ∷ us) (u ∷ us) (u ∷ placed t us)

abbrev pub ascending : List Topic → List Topic
ascending [] = []
ascending (t ∷ ts) = placed t (ascending ts)

-- the topics that the peer is subscribed to, ascending
abbrev pub own_topics : Entries → List Topic
own_topics L = ascending (filter (joined L) (known L))

-- ---- messages

-- when a message was marked as seen, and what it was found to be
pub record Sighting : Type 0 where
  pub at : ℕ
  pub verdict : Verdict

-- when a message was last marked as seen, after a mark at this moment
abbrev pub sighting_after : MsgId → ℕ → Mark → Option Sighting → Option Sighting
sighting_after id at (Seen other verdict) before =
    if same_id other id then Some (record { at = at; verdict = verdict }) else before
sighting_after id at other before = before

-- when a message was last marked as seen
abbrev pub last_seen : Entries → MsgId → Option Sighting
last_seen [] id = None
last_seen (e ∷ L) id = after_marks (sighting_after id e.at.0) e.effects.marks (last_seen L id)

-- a sighting counts for less than this time after it
abbrev pub counting : ℕ → ℕ → Option Sighting → Option Verdict
counting ttl now None = None
counting ttl now (Some s) = if nat_lt (now - s.at) ttl then Some s.verdict else None

-- the verdict on a message that was seen less than the time ago (gossipsub v1.0, "Message Cache", the seen cache)
abbrev pub seen : ℕ → Entries → MsgId → ℕ → Option Verdict
seen ttl L id now = counting ttl now (last_seen L id)

-- ---- kept messages

-- A message that is kept for neighbours that ask for it, the topic that it is kept under, and how many heartbeats ended
-- since.
pub record Keeping : Type 0 where
  pub topic : Topic
  pub message : Message
  pub age : ℕ

-- a message without any field
abbrev pub blank : Message
blank = record { origin = None; payload = None; seqno = None; topic = None; signature = None; key = None }

-- the message that a part of an RPC brings
abbrev pub message_of_part : RpcPart → Message
message_of_part part = unwrap_or (brought_by part) blank

-- the message that an act of the user brings
abbrev pub message_of_act : Act → Message
message_of_act (Subscribe t) = blank
message_of_act (Unsubscribe t) = blank
message_of_act (Publish t payload) = unsigned t payload
message_of_act (Raw q bytes) = blank
message_of_act (HangUp q) = blank

-- the message that an event brings; no other event makes one that is kept
abbrev pub message_in : Event → Message
message_in event = of_part (λ q part. message_of_part part) (of_act message_of_act blank event) event

-- the last mark of an identifier says which message is kept under it
abbrev pub kept_after : MsgId → Event → Mark → Option Keeping → Option Keeping
kept_after id event (Cached other t) before =
    if same_id other id then Some (record { topic = t; message = message_in event; age = 0 }) else before
kept_after id event other before = before

-- one heartbeat older
abbrev pub older : Option Keeping → Option Keeping
older None = None
older (Some k) = Some (record { topic = k.topic; message = k.message; age = k.age + 1 })

abbrev pub aged_by : BeatStep → Option Keeping → Option Keeping
aged_by (MeshBeat t) before = before
aged_by (FanBeat t) before = before
aged_by (FanEnd t) before = before
aged_by (GossipBeat t) before = before
aged_by BeatEnd before = older before

-- the end of a heartbeat makes what is kept older
abbrev pub aged_after : Event → Option Keeping → Option Keeping
aged_after event before = of_step (λ step. aged_by step before) before event

-- the message that was kept last under an identifier
abbrev pub last_kept : Entries → MsgId → Option Keeping
last_kept [] id = None
last_kept (e ∷ L) id = after_marks (kept_after id e.event) e.effects.marks (aged_after e.event (last_kept L id))

-- a message is kept until this many heartbeats have ended
abbrev pub keeping : ℕ → Option Keeping → Option Keeping
keeping len None = None
keeping len (Some k) = if nat_lt k.age len then Some k else None

-- the message that is kept under an identifier (gossipsub v1.0, "Message Cache")
abbrev pub kept : ℕ → Entries → MsgId → Option Keeping
kept len L id = keeping len (last_kept L id)

-- a message that is kept again moves to the end
abbrev pub order_after : Mark → List MsgId → List MsgId
order_after (Cached id t) before = filter (λ other. not (same_id id other)) before ++ id ∷ []
order_after other before = before

-- the identifiers of all that was kept, in the order in which each was kept last, the oldest first
abbrev pub keeping_order : Entries → List MsgId
keeping_order [] = []
keeping_order (e ∷ L) = after_marks order_after e.effects.marks (keeping_order L)

-- how often a neighbour was sent a message since the message was last kept
abbrev pub answered_after : PeerNo → MsgId → Mark → ℕ → ℕ
answered_after q id (Cached other t) before = if same_id other id then 0 else before
answered_after q id (Answered p other) before = if same_peer p q && same_id other id then before + 1 else before
answered_after q id other before = before

abbrev pub answered : Entries → PeerNo → MsgId → ℕ
answered [] q id = 0
answered (e ∷ L) q id = after_marks (answered_after q id) e.effects.marks (answered L q id)

-- ---- heartbeats

-- how many heartbeats began
abbrev pub counted_after : Event → ℕ → ℕ
counted_after event before = of_beginning (before + 1) before event

abbrev pub heartbeats : Entries → ℕ
heartbeats [] = 0
heartbeats (e ∷ L) = counted_after e.event (heartbeats L)

-- ---- budgets

abbrev pub anew_by : BeatStep → ℕ → ℕ
anew_by (MeshBeat t) before = before
anew_by (FanBeat t) before = before
anew_by (FanEnd t) before = before
anew_by (GossipBeat t) before = before
anew_by BeatEnd before = 0

-- the end of a heartbeat starts a count again from 0
abbrev pub anew_after : Event → ℕ → ℕ
anew_after event before = of_step (λ step. anew_by step before) before event

-- how many offers from a neighbour counted since the last heartbeat
abbrev pub offers_after : PeerNo → Mark → ℕ → ℕ
offers_after q (Offered p) before = if same_peer p q then before + 1 else before
offers_after q other before = before

abbrev pub offers : Entries → PeerNo → ℕ
offers [] q = 0
offers (e ∷ L) q = after_marks (offers_after q) e.effects.marks (anew_after e.event (offers L q))

-- how many identifiers a neighbour was asked for since the last heartbeat
abbrev pub asked_after : PeerNo → Mark → ℕ → ℕ
asked_after q (Asked p n) before = if same_peer p q then before + n else before
asked_after q other before = before

abbrev pub asked : Entries → PeerNo → ℕ
asked [] q = 0
asked (e ∷ L) q = after_marks (asked_after q) e.effects.marks (anew_after e.event (asked L q))

-- ---- promises

-- a heartbeat ends the promises whose time has come
abbrev pub ended_after : Event → ℕ → List Promise → List Promise
ended_after event at before = of_beginning (filter (λ promise. nat_lt at promise.until.0) before) before event

-- a message that is marked as seen keeps each promise of this message, whoever sent it
abbrev pub fulfilled_after : Mark → List Promise → List Promise
fulfilled_after (Seen id verdict) before = filter (λ promise. not (same_id id promise.id)) before
fulfilled_after other before = before

-- the promise that was made, if one was
abbrev pub made : Option Promise → List Promise
made None = []
made (Some promise) = promise ∷ []

-- the promises that were neither kept nor ended, the oldest first
abbrev pub promises : Entries → List Promise
promises [] = []
promises (e ∷ L) =
    after_marks fulfilled_after e.effects.marks (ended_after e.event e.at.0 (promises L)) ++ made e.effects.promise
