-- What a legal trace gossips: of messages that are kept, on a topic that is short, by identifiers of 32 bytes, and
-- no more of them than an offer may have.
use Rattle.std.proofs.Common.{◌≡◌, ◌≤◌, ◌<◌, ℕ, ◌-◌, zero, suc, Bool, true, false, if◌then◌else◌, List, [], ◌∷◌, ◌++◌, length, map, filter, drop, Option, Some, None, refl, sym, subst, arith}
use Rattle.std.specs.Prelude.{not, ◌&&◌, nat_lt}
use Rattle.std.specs.List.{All, AllByRecursion}
use Rattle.std.proofs.lemmas.Bool.{ltb-true}
use Rattle.std.proofs.lemmas.List.{length-drop}
use Rattle.std.proofs.lemmas.List.Elements.{All-from_recursion}
use Rattle.gs_base.specs.declared.names.PeerNo.{PeerNo}
use Rattle.gs_base.specs.declared.names.Topic.{Topic}
use Rattle.gs_base.specs.declared.names.MsgId.{MsgId}
use Rattle.gs_base.specs.declared.rpc.Rpc.{Rpc}
use Rattle.gs_base.specs.declared.mark.Mark.{Mark}
use Rattle.gs_base.specs.declared.mark.Mark.TheVariants.{Cached, Seen}
use Rattle.gs_base.specs.Names.{same_id, same_topic, HasIdentifierLength}
use Rattle.gs_base.specs.Rpcs.{most_identifiers}
use Rattle.gs_wire.proofs.RoundTrip.{all-append}
use Rattle.gs_rules.specs.declared.trace.Promise.{Promise}
use Rattle.gs_rules.specs.declared.event.Event.{Event}
use Rattle.gs_rules.specs.declared.event.Event.TheVariants.{BeatBegin, Step}
use Rattle.gs_rules.specs.declared.event.BeatStep.TheVariants.{MeshBeat, GossipBeat}
use Rattle.gs_rules.specs.declared.trace.Entry.{Entry}
use Rattle.gs_rules.specs.Peers.{Peer, windows}
use Rattle.gs_rules.specs.Tables.{Entries, Keeping, after_marks, ended_after, fulfilled_after, keeping_order, kept, made, order_after, own_topics, promises}
use Rattle.gs_rules.specs.Gossip.{IsKeptOn, gossip, is_gossiped}
use Rattle.gs_rules.specs.Owed.{gossip_topics, heartbeat_groups, is_some_list, owed}
use Rattle.gs_rules.specs.Parts.{parts}
use Rattle.gs_rules.specs.Meshes.{mesh_topics}
use Rattle.gs_rules.specs.Rules.{rule_of}
use Rattle.gs_rules.specs.Modes.{Follows, free}
use Rattle.gs_rules.specs.Legal.{IsNext, Legal}
use Rattle.gs_rules.proofs.Each.{each_weaker, of_each}
use Rattle.gs_rules.proofs.Legality.{legal_newest}
use Rattle.gs_rules.proofs.Marks.{MayMark}
use Rattle.gs_rules.proofs.EntryMarks.{entry_marks}
use Rattle.gs_rules.proofs.MeshTopics.{mesh_topics_short}
use Rattle.gs_rules.proofs.Owed.{OwesSuch, ReachesSuch, always_such, heartbeat_is_such, next_is_such, parts_are_such}
use Rattle.gs_rules.proofs.Topics.{IsShort, passing_are}

-- ---- lists

-- what holds of each of a list holds of each that passes a test, and of each after the first n
filtered_are : {X : Type 0} (P : X → Type 0) (test : X → Bool) (xs : List X) → AllByRecursion P xs → AllByRecursion P (filter test xs)
filtered_are P test [] all = tt
filtered_are P test (x ∷ xs) all = by (test x) (filtered_are P test xs all.1)
  where
    by : (passes : Bool) → AllByRecursion P (filter test xs) → AllByRecursion P (if passes then x ∷ filter test xs else filter test xs)
    by true rest = (all.0, rest)
    by false rest = rest

dropped_are : {X : Type 0} (P : X → Type 0) (n : ℕ) (xs : List X) → AllByRecursion P xs → AllByRecursion P (drop n xs)
dropped_are P zero xs all = all
dropped_are P (suc n) [] all = tt
dropped_are P (suc n) (x ∷ xs) all = dropped_are P n xs all.1

mapped_are : {X Y : Type 0} (P : Y → Type 0) (f : X → Y) (xs : List X) → AllByRecursion (λ x. P (f x)) xs → AllByRecursion P (map f xs)
mapped_are P f [] all = tt
mapped_are P f (x ∷ xs) all = (all.0, mapped_are P f xs all.1)

-- ---- a heartbeat is of topics that are short

-- where the event gossips on a topic, this is short
abbrev IsShortBeat : Event → Type 0
IsShortBeat (Step (GossipBeat t)) = IsShort t
IsShortBeat other = Unit {0}

parts_short : (q : PeerNo) (rpc : Rpc) → AllByRecursion IsShortBeat (parts q rpc)
parts_short q rpc = parts_are_such IsShortBeat q rpc (λ part. tt)

gossip_topics_short : (p : Peer) (L : Entries) → Legal p L → AllByRecursion IsShort (gossip_topics p L)
gossip_topics_short p L legal = filtered_are IsShort (λ t. is_some_list (gossip p L t)) (mesh_topics L) (mesh_topics_short p L legal)

-- after any trace
abbrev ShortAnywhere : Entries → Event → Type 0
ShortAnywhere = λ M. IsShortBeat

heartbeat_short : (p : Peer) (at : ℕ) → ReachesSuch p (Legal p) ShortAnywhere (heartbeat_groups at)
heartbeat_short p at =
    heartbeat_is_such p (Legal p) ShortAnywhere at
    (λ M legal. of_each (λ (t : Topic). IsShortBeat (Step (MeshBeat t))) (λ t. tt) (own_topics M)) (λ M t. tt) (λ M t. tt)
    (λ M legal. gossip_topics_short p M legal) (λ M. tt)

owed_short : (p : Peer) (L : Entries) → Legal p L → OwesSuch p (Legal p) ShortAnywhere L (owed p L)
owed_short p L legal = always_such p ShortAnywhere (λ M e own event is. is) (λ M e q rpc goes_on is. parts_short q rpc) (heartbeat_short p) L legal

pub beat_short : (p : Peer) (L : Entries) (at : ℕ) (t : Topic) → Legal p L → IsNext p L at (owed p L).events (Step (GossipBeat t)) → IsShort t
beat_short p L at t legal next = next_is_such IsShortBeat p L at (owed p L).events (Step (GossipBeat t)) (owed_short p L legal).0 (λ h. h) next

-- ---- identifiers of 32 bytes

abbrev IsLong : MsgId → Type 0
IsLong id = HasIdentifierLength id.0

-- where a mark keeps a message, its identifier has 32 bytes
abbrev KeepsLong : Mark → Type 0
KeepsLong (Cached id t) = IsLong id
KeepsLong other = Unit {0}

mark_keeps : (p : Peer) (L : Entries) (at : ℕ) (event : Event) (mark : Mark) → MayMark p L at event mark → KeepsLong mark
mark_keeps p L at event (Cached id t) may = may
mark_keeps p L at event other may = tt

entry_keeps : (p : Peer) (L : Entries) (event : Event) (e : Entry) → Follows free (rule_of p L e.at event) tt e.effects tt → AllByRecursion KeepsLong e.effects.marks
entry_keeps p L event e effects = each_weaker (MayMark p L e.at.0 event) KeepsLong (mark_keeps p L e.at.0 event) e.effects.marks (entry_marks p L event e effects)

marks_order : (marks : List Mark) (before : List MsgId) → AllByRecursion KeepsLong marks → AllByRecursion IsLong before → AllByRecursion IsLong (after_marks order_after marks before)
marks_order [] before all h = h
marks_order (Cached id t ∷ marks) before all h =
    let others : List MsgId = filter (λ other. not (same_id id other)) before in
    marks_order marks (others ++ id ∷ []) all.1 (all-append IsLong others (id ∷ []) (filtered_are IsLong (λ other. not (same_id id other)) before h) (all.0, tt))
marks_order (other ∷ marks) before all h = marks_order marks before all.1 h

order_long : (p : Peer) (L : Entries) → Legal p L → AllByRecursion IsLong (keeping_order L)
order_long p [] legal = tt
order_long p (e ∷ L) legal = marks_order e.effects.marks (keeping_order L) (entry_keeps p L e.event e (legal_newest p e L legal).effects) (order_long p L legal.1)

-- ---- what is gossiped

-- the test of what is gossiped
abbrev passes : Peer → Entries → Topic → MsgId → Bool
passes p L t id = is_gossiped p.params.timing.mcache_gossip t (kept (windows p) L id)

pub gossip_long : (p : Peer) (L : Entries) (t : Topic) → Legal p L → AllByRecursion HasIdentifierLength (map (λ (id : MsgId). id.0) (gossip p L t))
gossip_long p L t legal =
    let all : List MsgId = filter (passes p L t) (keeping_order L) in
    mapped_are HasIdentifierLength (λ (id : MsgId). id.0) (gossip p L t)
    (dropped_are IsLong (length all - most_identifiers) all (filtered_are IsLong (passes p L t) (keeping_order L) (order_long p L legal)))

last_few : {X : Type 0} (n : ℕ) (xs : List X) → length (drop (length xs - n) xs) ≤ n
last_few n xs = omega (arith, length-drop (length xs - n) xs)

pub gossip_few : (p : Peer) (L : Entries) (t : Topic) → length (gossip p L t) ≤ most_identifiers
gossip_few p L t = last_few most_identifiers (filter (passes p L t) (keeping_order L))

-- both tests hold where both do together
first_of_both : (a b : Bool) → (a && b) ≡ true → a ≡ true
first_of_both true b both = refl
first_of_both false b both = both

second_of_both : (a b : Bool) → (a && b) ≡ true → b ≡ true
second_of_both true b both = both
second_of_both false b both = absurd cc

found_on : (p : Peer) (L : Entries) (t : Topic) (id : MsgId) (found : Option Keeping) → kept (windows p) L id ≡ found → is_gossiped p.params.timing.mcache_gossip t found ≡ true → IsKeptOn p L t id
found_on p L t id None is gossiped = absurd cc
found_on p L t id (Some k) is gossiped = record {
  found = k;
  is_kept = is;
  on_topic = second_of_both (nat_lt k.age p.params.timing.mcache_gossip) (same_topic k.topic t) gossiped;
  young = ltb-true k.age p.params.timing.mcache_gossip (first_of_both (nat_lt k.age p.params.timing.mcache_gossip) (same_topic k.topic t) gossiped);
}

pub gossip_is_kept : (p : Peer) (L : Entries) (t : Topic) → All (IsKeptOn p L t) (gossip p L t)
gossip_is_kept p L t =
    let all : List MsgId = filter (passes p L t) (keeping_order L) in
    All-from_recursion (IsKeptOn p L t) (gossip p L t)
    (dropped_are (IsKeptOn p L t) (length all - most_identifiers) all
    (passing_are (IsKeptOn p L t) (passes p L t) (keeping_order L) (λ id gossiped. found_on p L t id (kept (windows p) L id) refl gossiped)))

-- ---- broken promises

-- what marks leave of promises
marks_leave : (P : Promise → Type 0) (marks : List Mark) (before : List Promise) → AllByRecursion P before → AllByRecursion P (after_marks fulfilled_after marks before)
marks_leave P [] before all = all
marks_leave P (Seen id verdict ∷ marks) before all =
    let rest : List Promise = filter (λ promise. not (same_id id promise.id)) before in
    marks_leave P marks rest (filtered_are P (λ promise. not (same_id id promise.id)) before all)
marks_leave P (other ∷ marks) before all = marks_leave P marks before all

-- it is to come yet
abbrev IsToCome : ℕ → Promise → Type 0
IsToCome at promise = at < promise.until.0

to_come : (at : ℕ) (before : List Promise) → AllByRecursion (IsToCome at) (filter (λ promise. nat_lt at promise.until.0) before)
to_come at before = passing_are (IsToCome at) (λ promise. nat_lt at promise.until.0) before (λ promise later. ltb-true at promise.until.0 later)

pub none_overdue : (L : Entries) (e : Entry) → e.event ≡ BeatBegin → e.effects.promise ≡ None → All (IsToCome e.at.0) (promises (e ∷ L))
none_overdue L e beat none =
    let P = IsToCome e.at.0 in
    let ended : AllByRecursion P (ended_after e.event e.at.0 (promises L)) =
    subst (λ (event : Event). AllByRecursion P (ended_after event e.at.0 (promises L))) (sym beat) (to_come e.at.0 (promises L)) in
    let left : List Promise = after_marks fulfilled_after e.effects.marks (ended_after e.event e.at.0 (promises L)) in
    All-from_recursion P (promises (e ∷ L))
    (all-append P left (made e.effects.promise) (marks_leave P e.effects.marks (ended_after e.event e.at.0 (promises L)) ended) (subst (λ (promise : Option Promise). AllByRecursion P (made promise)) (sym none) tt))
