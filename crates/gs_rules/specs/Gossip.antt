-- What a heartbeat does with promises and with messages that are kept: it charges those who broke a promise, and gossips.
use Rattle.std.specs.Prelude.{◌≡◌, ◌<◌, ℕ, ◌-◌, ◌*◌, ◌/◌, min, max, Bool, true, false, ◌&&◌, nat_le, nat_lt, if◌then◌else◌, List, [], ◌∷◌, ◌++◌, length, drop, map, filter, Option, Some, None}
use Rattle.std.specs.List.{AllByRecursion, flat_map, list_any}
use Rattle.gs_base.specs.declared.names.PeerNo.{PeerNo}
use Rattle.gs_base.specs.declared.names.Topic.{Topic}
use Rattle.gs_base.specs.declared.names.MsgId.{MsgId}
use Rattle.gs_base.specs.declared.mark.Mark.{Mark}
use Rattle.gs_base.specs.declared.mark.Mark.TheVariants.{Misbehaviour, Seen}
use Rattle.gs_base.specs.Names.{same_id, same_peer, same_topic}
use Rattle.gs_base.specs.Rpcs.{most_identifiers}
use Rattle.gs_rules.specs.declared.event.Event.{Event}
use Rattle.gs_rules.specs.Events.{of_beginning}
use Rattle.gs_rules.specs.declared.trace.Promise.{Promise}
use Rattle.gs_rules.specs.declared.trace.Entry.{Entry}
use Rattle.gs_rules.specs.Peers.{Peer, links_of, windows}
use Rattle.gs_rules.specs.Tables.{Entries, Keeping, kept, keeping_order, promises, up}

-- ---- promises (gossipsub v1.1, "Spam Protection Measures")

-- the promises of a neighbour whose time has come
abbrev pub overdue : Entries → ℕ → PeerNo → List Promise
overdue L at q = filter (λ promise. same_peer promise.from q && nat_le promise.until.0 at) (promises L)

-- each counts against the neighbour, if it is up
abbrev pub charges : Entries → ℕ → PeerNo → List Mark
charges L at q = if up L q then map (λ promise. Misbehaviour q) (overdue L at q) else []

abbrev pub all_charges : Peer → Entries → ℕ → List Mark
all_charges p L at = flat_map (charges L at) (links_of p)

-- whether a mark keeps a promise: the message that was promised is seen, whoever sent it
abbrev pub keeps_promise : Promise → Mark → Bool
keeps_promise promise (Seen id verdict) = same_id id promise.id
keeps_promise promise other = false

-- whether an event at this moment ends a promise: a heartbeat does, once its time has come
abbrev pub ends_promise : Promise → Event → ℕ → Bool
ends_promise promise event at = of_beginning (nat_le promise.until.0 at) false event

-- An entry neither keeps a promise nor ends it.
pub record IsOpen (promise : Promise) (e : Entry) : Type 0 where
  pub unkept : list_any (keeps_promise promise) e.effects.marks ≡ false
  pub unended : ends_promise promise e.event e.at.0 ≡ false

-- A promise was made by an entry of a trace, and each entry since left it open.
pub record WasLeftOpen (L : Entries) (promise : Promise) : Type 0 where
  pub later : Entries
  pub maker : Entry
  pub earlier : Entries
  pub whole : L ≡ later ++ maker ∷ earlier
  pub makes : maker.effects.promise ≡ Some promise
  pub leaves : AllByRecursion (IsOpen promise) later

-- ---- what is gossiped (gossipsub v1.0, "Gossip Emission")

-- whether a message is gossiped on a topic: for this many heartbeats since it was kept
abbrev pub is_gossiped : ℕ → Topic → Option Keeping → Bool
is_gossiped most t None = false
is_gossiped most t (Some k) = nat_lt k.age most && same_topic k.topic t

-- the last ones of a list, at most this many
abbrev pub last_of : {A : Type 0} → ℕ → List A → List A
last_of n xs = drop (length xs - n) xs

-- the identifiers that are gossiped on a topic, the oldest first: only those that were kept last, if there are too many
abbrev pub gossip : Peer → Entries → Topic → List MsgId
gossip p L t =
    last_of most_identifiers
    (filter (λ id. is_gossiped p.params.timing.mcache_gossip t (kept (windows p) L id)) (keeping_order L))

-- all identifiers that may be gossiped on a topic, without a limit, the oldest first
abbrev pub gossipable : Peer → Entries → Topic → List MsgId
gossipable p L t =
    filter (λ id. is_gossiped p.params.timing.mcache_gossip t (kept (windows p) L id)) (keeping_order L)

-- A message is kept under a topic, and its age is below the number of heartbeats for which messages are gossiped.
pub record IsKeptOn (p : Peer) (L : Entries) (t : Topic) (id : MsgId) : Type 0 where
  pub found : Keeping
  pub is_kept : kept (windows p) L id ≡ Some found
  pub on_topic : same_topic found.topic t ≡ true
  pub young : found.age < p.params.timing.mcache_gossip

-- how many of n neighbours are sent gossip: a part of them, and at least `d_lazy`, or all if there are fewer (gossipsub
-- v1.1, "Adaptive Gossip Dissemination")
abbrev pub gossip_size : Peer → ℕ → ℕ
gossip_size p n = min n (max p.params.degrees.d_lazy (p.params.factors.gossip_factor * n / 1_000_000))
