-- Which entries may follow each other.
use Rattle.std.specs.Prelude.{◌≡◌, ◌≢◌, ◌≤◌, ◌+◌, ℕ, Bool, true, false, ◌||◌, nat_lt, if◌then◌else◌, List, [], ◌∷◌, ◌++◌, length, Option, Some, None}
use Rattle.std.specs.List.{list_any, IsAmong}
use Rattle.gs_base.specs.declared.names.PeerNo.{PeerNo}
use Rattle.gs_base.specs.declared.names.Topic.{Topic}
use Rattle.gs_base.specs.declared.names.Millis.{Millis}
use Rattle.gs_base.specs.declared.names.MsgId.{MsgId}
use Rattle.gs_base.specs.declared.rpc.Rpc.{Rpc}
use Rattle.gs_base.specs.Names.{longest_topic, most_topics, same_topic, message_id}
use Rattle.gs_base.specs.Rpcs.{publication}
use Rattle.gs_wire.specs.Codec.{codec}
use Rattle.gs_rules.specs.declared.event.Event.{Event}
use Rattle.gs_rules.specs.declared.event.Event.TheVariants.{Heard, Late, Part, BeatBegin, Step, Own, Lost, Decay, RoundEnd, Shut}
use Rattle.gs_plan.specs.declared.plan.Act.TheVariants.{Subscribe, Unsubscribe, Publish, Raw, HangUp}
use Rattle.gs_plan.specs.declared.plan.Act.{Act}
use Rattle.gs_rules.specs.declared.trace.Entry.{Entry}
use Rattle.gs_rules.specs.Peers.{Peer, seen_ttl}
use Rattle.gs_rules.specs.Tables.{Entries, last_moment, is_shut, up, joined, known, seen}
use Rattle.gs_rules.specs.Owed.{owed, nothing}
use Rattle.gs_rules.specs.Rules.{rule_of}
use Rattle.gs_rules.specs.Modes.{Mode, Follows, free}

-- ---- what may be begun

-- an RPC may be heard if its sender is up and it fits a frame; each RPC from a reader fits one
pub record MayHear (L : Entries) (q : PeerNo) (rpc : Rpc) : Type 0 where
  pub is_up : up L q ≡ true
  pub fits : codec.fits rpc ≡ true

-- the peer may be subscribed to one more topic, or was subscribed to this one before
abbrev pub has_room_for : Entries → Topic → Bool
has_room_for L t = list_any (same_topic t) (known L) || nat_lt (length (known L)) most_topics

-- a topic that the peer isn't subscribed to, within the limits
pub record MaySubscribe (L : Entries) (t : Topic) : Type 0 where
  pub running : is_shut L ≡ false
  pub short : length t.0 ≤ longest_topic
  pub apart : joined L t ≡ false
  pub room : has_room_for L t ≡ true

-- a topic that the peer is subscribed to
pub record MayUnsubscribe (L : Entries) (t : Topic) : Type 0 where
  pub running : is_shut L ≡ false
  pub joined : joined L t ≡ true

-- a payload that wasn't seen lately and fits a frame, on a topic within the limit
pub record MayPublish (p : Peer) (L : Entries) (at : ℕ) (t : Topic) (payload : List ℕ) : Type 0 where
  pub running : is_shut L ≡ false
  pub short : length t.0 ≤ longest_topic
  pub fits : codec.fits (publication t payload) ≡ true
  pub unseen : seen (seen_ttl p) L (message_id payload) at ≡ None

-- the act may come at this moment; a neighbour's link is closed, or gets raw bytes, only while the neighbour is up
abbrev pub MayAct : Peer → Entries → ℕ → Act → Type 0
MayAct p L at (Subscribe t) = MaySubscribe L t
MayAct p L at (Unsubscribe t) = MayUnsubscribe L t
MayAct p L at (Publish t payload) = MayPublish p L at t payload
MayAct p L at (Raw q bytes) = up L q ≡ true
MayAct p L at (HangUp q) = up L q ≡ true

-- The event may come at this moment, where nothing is owed. A part of an RPC and a step of a heartbeat come only where they
-- are owed. A neighbour is lost only while it is up.
abbrev pub MayOpen : Peer → Entries → ℕ → Event → Type 0
MayOpen p L at (Heard q rpc) = MayHear L q rpc
MayOpen p L at (Late q rpc) = up L q ≡ false
MayOpen p L at (Part q part) = ⊥
MayOpen p L at (Step step) = ⊥
MayOpen p L at (Own act) = MayAct p L at act
MayOpen p L at (Lost q loss) = up L q ≡ true
MayOpen p L at BeatBegin = is_shut L ≡ false
MayOpen p L at Decay = is_shut L ≡ false
MayOpen p L at (RoundEnd r) = is_shut L ≡ false
MayOpen p L at Shut = is_shut L ≡ false

-- ---- legal traces

-- the event is the first one that is owed; if none is owed, it may be any that may open
abbrev pub IsNext : Peer → Entries → ℕ → List Event → Event → Type 0
IsNext p L at [] event = MayOpen p L at event
IsNext p L at (first ∷ rest) event = event ≡ first

-- the entry may come after these
pub record IsAllowed (m : Mode) (p : Peer) (L : Entries) (s : m.State) (e : Entry) (t : m.State) : Type 0 where
  pub time : last_moment L ≤ e.at.0
  pub next : IsNext p L e.at.0 (owed p L).events e.event
  pub effects : Follows m (rule_of p L e.at e.event) s e.effects t

-- These entries may follow that trace, each after those before it, where the choices lead from s to t.
abbrev pub LegalOn : (m : Mode) → Peer → m.State → Entries → Entries → m.State → Type 0
LegalOn m p s K [] t = t ≡ s
LegalOn m p s K (e ∷ L) t = (u : m.State) × LegalOn m p s K L u × IsAllowed m p (L ++ K) u e t

-- each entry may come after those before it, by any choice
abbrev pub Legal : Peer → Entries → Type 0
Legal p L = LegalOn free p tt [] L tt

-- ---- what comes from a neighbour

-- an RPC is heard while its sender is up
abbrev pub hearing : Entries → PeerNo → Rpc → Event
hearing L q rpc = if up L q then Heard q rpc else Late q rpc

-- an event that loses a neighbour comes only while the neighbour is up
abbrev pub losing : Entries → PeerNo → Event → Option Event
losing L q event = if up L q then Some event else None

-- ---- an event with what it owes

-- these entries came at this moment after those, each where something was owed
abbrev pub ArePayments : Peer → Millis → Entries → List Entry → Type 0
ArePayments p at L [] = Unit {0}
ArePayments p at L (e ∷ es) = (e.at ≡ at) × ((owed p (es ++ L)).events ≢ []) × ArePayments p at L es

-- From the one trace to the other: an entry of the event and some of what it owes, all at this moment.
pub record Begins (p : Peer) (at : Millis) (event : Event) (K L : Entries) : Type 0 where
  pub first : Entry
  pub paid : List Entry
  pub entries : L ≡ paid ++ first ∷ K
  pub opened : first.event ≡ event
  pub moment : first.at ≡ at
  pub payments : ArePayments p at (first ∷ K) paid

-- From the one trace to the other: an entry of the event and all that it owes, all at this moment.
pub record Opens (p : Peer) (at : Millis) (event : Event) (K L : Entries) : Type 0 where
  pub begun : Begins p at event K L
  pub settled : owed p L ≡ nothing

-- it comes with all that it owes; without an event nothing comes
abbrev pub Comes : Peer → Millis → Option Event → Entries → Entries → Type 0
Comes p at None K L = L ≡ K
Comes p at (Some event) K L = Opens p at event K L

-- ---- deliveries

-- a message with this identifier is delivered
abbrev pub Delivers : Entry → MsgId → Type 0
Delivers e id = (x : Topic × List ℕ) × IsAmong e.effects.delivered x × (message_id x.1 ≡ id)

-- of two entries that deliver one identifier, on whatever topics, the later comes at least this long after the earlier
abbrev pub DeliversApart : ℕ → Entries → Type 0
DeliversApart ttl L =
    (later between earlier : Entries) (e f : Entry) (id : MsgId)
    → L ≡ later ++ e ∷ (between ++ f ∷ earlier)
    → Delivers e id
    → Delivers f id
    → f.at.0 + ttl ≤ e.at.0
