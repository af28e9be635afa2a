-- What is owed after an entry are parts of RPCs, and what a heartbeat does, and nothing else.
use Rattle.std.proofs.Common.{◌≡◌, ◌≢◌, ℕ, zero, suc, arith, Bool, true, false, if◌then◌else◌, List, [], ◌∷◌, ◌++◌, drop, refl, sym, ap, subst, ◌∙◌}
use Rattle.std.specs.List.{AllByRecursion, IsAmong}
use Rattle.gs_base.specs.declared.names.PeerNo.{PeerNo}
use Rattle.gs_base.specs.declared.names.Topic.{Topic}
use Rattle.gs_base.specs.declared.rpc.Rpc.{Rpc}
use Rattle.gs_rules.specs.declared.event.Event.{Event}
use Rattle.gs_rules.specs.declared.event.Event.TheVariants.{Heard, BeatBegin, Part, Step, Late, Own, Lost, Decay, RoundEnd, Shut}
use Rattle.gs_rules.specs.declared.event.RpcPart.TheVariants.{Sub, Msg, Have, Want, GraftIn, PruneIn}
use Rattle.gs_rules.specs.declared.event.BeatStep.TheVariants.{MeshBeat, FanBeat, FanEnd, GossipBeat, BeatEnd}
use Rattle.gs_rules.specs.declared.event.RpcPart.{RpcPart}
use Rattle.gs_rules.specs.declared.trace.Entry.{Entry}
use Rattle.gs_rules.specs.Peers.{Peer}
use Rattle.gs_rules.specs.Tables.{Entries, own_topics}
use Rattle.gs_rules.specs.Meshes.{fanout_topics, is_stale, last_published}
use Rattle.gs_rules.specs.BeatRules.{fan_event}
use Rattle.gs_rules.specs.Scoring.{is_graylisted}
use Rattle.gs_base.specs.Rpcs.{grafts_in, offers_in, prunes_in, requests_in}
use Rattle.gs_rules.specs.Owed.{Group, PartsOf, Gossips, Debt, beats, events_in, gossip_topics, heartbeat_groups, held_or, nothing, owes, owing, owed, paid, reached}
use Rattle.gs_rules.specs.Parts.{events_of, parts}
use Rattle.gs_rules.specs.Legal.{IsNext, Legal, MayOpen}
use Rattle.gs_rules.proofs.Each.{each_mapped, each_weaker, of_each}
use Rattle.gs_rules.proofs.Legality.{legal_newest}

-- what comes only where it is owed: a part of an RPC, and what a heartbeat does
abbrev pub IsOwed : Event → Type 0
IsOwed (Part q part) = Unit {0}
IsOwed (Step step) = Unit {0}
IsOwed (Heard q rpc) = ⊥
IsOwed (Late q rpc) = ⊥
IsOwed BeatBegin = ⊥
IsOwed (Own act) = ⊥
IsOwed (Lost q loss) = ⊥
IsOwed Decay = ⊥
IsOwed (RoundEnd r) = ⊥
IsOwed Shut = ⊥

-- ---- what holds of events that are owed together

-- where the part is a message, the RPC has it
abbrev pub IsMessageOf : Rpc → RpcPart → Type 0
IsMessageOf rpc (Msg m) = IsAmong rpc.publish m
IsMessageOf rpc other = Unit {0}

module _ (P : Event → Type 0) where
  -- parts of one kind, and those after them
  kind_is_such : {X : Type 0} (q : PeerNo) (as_part : X → RpcPart) (xs : List X) (rest : List Event) → ((x : X) → IsAmong xs x → P (Part q (as_part x))) → AllByRecursion P rest → AllByRecursion P (events_of as_part q xs ++ rest)
  kind_is_such q as_part [] rest each h = h
  kind_is_such q as_part (x ∷ xs) rest each h = (
    each x (zero, (omega arith, refl)),
    kind_is_such q as_part xs rest (λ y among. each y (suc among.0, (omega (arith, among.1.0), among.1.1))) h,
  )

  -- The parts of an RPC. What holds of its messages may hold of these alone.
  pub messages_are_such : (q : PeerNo) (rpc : Rpc) → ((part : RpcPart) → IsMessageOf rpc part → P (Part q part)) → AllByRecursion P (parts q rpc)
  messages_are_such q rpc each =
      kind_is_such q Sub rpc.subs _ (λ sub among. each (Sub sub) tt)
      (kind_is_such q Msg rpc.publish _ (λ m among. each (Msg m) among)
      (kind_is_such q Have (offers_in rpc.control) _ (λ offer among. each (Have offer) tt)
      (kind_is_such q Want (requests_in rpc.control) _ (λ request among. each (Want request) tt)
      (kind_is_such q GraftIn (grafts_in rpc.control) _ (λ graft among. each (GraftIn graft) tt)
      (kind_is_such q PruneIn (prunes_in rpc.control) _ (λ prune among. each (PruneIn prune) tt)
      tt)))))

  pub parts_are_such : (q : PeerNo) (rpc : Rpc) → ((part : RpcPart) → P (Part q part)) → AllByRecursion P (parts q rpc)
  parts_are_such q rpc each = messages_are_such q rpc (λ part among. each part)

  rest_are_such : (events : List Event) → AllByRecursion P events → AllByRecursion P (drop 1 events)
  rest_are_such [] h = tt
  rest_are_such (first ∷ rest) h = h.1

  -- gossip, where it is such on each topic, and the end of a heartbeat
  beats_are_such : (topics : List Topic) → AllByRecursion (λ t. P (Step (GossipBeat t))) topics → P (Step BeatEnd) → AllByRecursion P (beats topics)
  beats_are_such [] all end = (end, tt)
  beats_are_such (t ∷ topics) all end = (all.0, beats_are_such topics all.1 end)

  -- what comes next, and may not open where nothing is owed
  pub next_is_such : (p : Peer) (L : Entries) (at : ℕ) (events : List Event) (event : Event) → AllByRecursion P events → ¬ (MayOpen p L at event) → IsNext p L at events event → P event
  next_is_such p L at [] event all never next = absurd (never next)
  next_is_such p L at (first ∷ rest) event all never next = subst P (sym next) all.0

-- ---- what holds of all that is owed

-- It may hold after one trace and not after another, and groups be reached after some traces only.
module _ (p : Peer) (Stands : Entries → Type 0) (P : Entries → Event → Type 0) where
  -- it holds of each event of these groups, wherever they are reached
  abbrev pub ReachesSuch : List Group → Type 0
  ReachesSuch groups = AllByRecursion (λ (group : Group). (M : Entries) → Stands M → AllByRecursion (P M) (events_in p M group)) groups

  -- it holds of each event of the group that was reached, and of those of each group after that
  abbrev pub OwesSuch : Entries → Debt → Type 0
  OwesSuch M debt = AllByRecursion (P M) debt.events × ReachesSuch debt.groups

  held_are_such : (M : Entries) (events : List Event) (groups : List Group) (otherwise : Debt) → AllByRecursion (P M) events → ReachesSuch groups → OwesSuch M otherwise → OwesSuch M (held_or events groups otherwise)
  held_are_such M [] groups otherwise all behind rest = rest
  held_are_such M (event ∷ events) groups otherwise all behind rest = (all, behind)

  reached_are_such : (M : Entries) (groups : List Group) → Stands M → ReachesSuch groups → OwesSuch M (reached p M groups)
  reached_are_such M [] here all = (tt, tt)
  reached_are_such M (group ∷ groups) here all =
      held_are_such M (events_in p M group) groups (reached p M groups) (all.0 M here) all.1 (reached_are_such M groups here all.1)

  paid_are_such : (M : Entries) (debt : Debt) → Stands M → OwesSuch M debt → OwesSuch M (paid p M debt)
  paid_are_such M debt here h =
      held_are_such M (drop 1 debt.events) debt.groups (reached p M debt.groups) (rest_are_such (P M) debt.events h.0) h.1 (reached_are_such M debt.groups here h.1)

  -- what a heartbeat does to a fanout
  fan_is_such : (M : Entries) (at : ℕ) (t : Topic) → P M (Step (FanBeat t)) → P M (Step (FanEnd t)) → P M (fan_event p M at t)
  fan_is_such M at t mends ends = by (is_stale p.params.timing.fanout_ttl_ms at (last_published M t))
    where
      by : (stale : Bool) → P M (if stale then Step (FanEnd t) else Step (FanBeat t))
      by true = ends
      by false = mends

  -- what a heartbeat does, where that is such on each topic, and so is its end
  pub heartbeat_is_such : (at : ℕ)
      → ((M : Entries) → Stands M → AllByRecursion (λ (t : Topic). P M (Step (MeshBeat t))) (own_topics M))
      → ((M : Entries) (t : Topic) → P M (Step (FanBeat t)))
      → ((M : Entries) (t : Topic) → P M (Step (FanEnd t)))
      → ((M : Entries) → Stands M → AllByRecursion (λ (t : Topic). P M (Step (GossipBeat t))) (gossip_topics p M))
      → ((M : Entries) → P M (Step BeatEnd))
      → ReachesSuch (heartbeat_groups at)
  heartbeat_is_such at meshes fans ended gossips end = (
    (λ M here. each_mapped (P M) (λ t. Step (MeshBeat t)) (own_topics M) (meshes M here)),
    (
      (λ M here. each_mapped (P M) (fan_event p M at) (fanout_topics M) (of_each (λ (t : Topic). P M (fan_event p M at t)) (λ t. fan_is_such M at t (fans M t) (ended M t)) (fanout_topics M))),
      ((λ M here. beats_are_such (P M) (gossip_topics p M) (gossips M here) (end M)), tt),
    ),
  )

  -- what was owed before was such, and so are the parts of an RPC, which is heard in vain or not
  heard_are_such : (M : Entries) (q : PeerNo) (rpc : Rpc) (before : Debt) (in_vain : Bool) → Stands M → AllByRecursion (P M) (parts q rpc) → OwesSuch M before → OwesSuch M (owing p M (if in_vain then [] else PartsOf q rpc ∷ []) before)
  heard_are_such M q rpc before true here heard h = paid_are_such M before here h
  heard_are_such M q rpc before false here heard h = held_are_such M (parts q rpc) [] nothing heard tt (tt, tt)

  -- what was owed before was such, and so are the parts of an RPC that is heard, and what a heartbeat does
  owing_are_such : (L M : Entries) (at : ℕ) (event : Event) (before : Debt) → Stands M → ((q : PeerNo) (rpc : Rpc) → event ≡ Heard q rpc → AllByRecursion (P M) (parts q rpc)) → ReachesSuch (heartbeat_groups at) → OwesSuch M before → OwesSuch M (owing p M (owes p L at event) before)
  owing_are_such L M at (Heard q rpc) before here heard beat h = heard_are_such M q rpc before (is_graylisted p L at q) here (heard q rpc refl) h
  owing_are_such L M at BeatBegin before here heard beat h = reached_are_such M (heartbeat_groups at) here beat
  owing_are_such L M at other before here heard beat h = paid_are_such M before here h

-- ---- what is ever owed

abbrev pub Anywhere : Entries → Type 0
Anywhere = λ M. Unit {0}

abbrev pub OwedAnywhere : Entries → Event → Type 0
OwedAnywhere = λ M. IsOwed

parts_are_owed : (q : PeerNo) (rpc : Rpc) → AllByRecursion IsOwed (parts q rpc)
parts_are_owed q rpc = parts_are_such IsOwed q rpc (λ part. tt)

heartbeat_is_owed : (p : Peer) (at : ℕ) → ReachesSuch p Anywhere OwedAnywhere (heartbeat_groups at)
heartbeat_is_owed p at =
    heartbeat_is_such p Anywhere OwedAnywhere at
    (λ M here. of_each (λ (t : Topic). IsOwed (Step (MeshBeat t))) (λ t. tt) (own_topics M)) (λ M t. tt) (λ M t. tt)
    (λ M here. of_each (λ (t : Topic). IsOwed (Step (GossipBeat t))) (λ t. tt) (gossip_topics p M)) (λ M. tt)

-- only these are ever owed
pub owed_are_such : (p : Peer) (L : Entries) → OwesSuch p Anywhere OwedAnywhere L (owed p L)
owed_are_such p [] = (tt, tt)
owed_are_such p (e ∷ L) =
    owing_are_such p Anywhere OwedAnywhere L (e ∷ L) e.at.0 e.event (owed p L) tt (λ q rpc is. parts_are_owed q rpc) (heartbeat_is_owed p e.at.0) (owed_are_such p L)

opens_by : (p : Peer) (L : Entries) (at : ℕ) (owing : List Event) (event : Event) → AllByRecursion IsOwed owing → ¬ (IsOwed event) → IsNext p L at owing event → MayOpen p L at event
opens_by p L at [] event parts own next = next
opens_by p L at (first ∷ rest) event parts own next = absurd (own (subst IsOwed (sym next) parts.0))

-- so what is none of these comes where it may open
pub opens : (p : Peer) (L : Entries) (at : ℕ) (event : Event) → ¬ (IsOwed event) → IsNext p L at (owed p L).events event → MayOpen p L at event
opens p L at event own next = opens_by p L at (owed p L).events event (owed_are_such p L).0 own next

next_is_owed : (p : Peer) (L : Entries) (at : ℕ) (events : List Event) (event : Event) → AllByRecursion IsOwed events → events ≢ [] → IsNext p L at events event → IsOwed event
next_is_owed p L at [] event h some next = absurd (some refl)
next_is_owed p L at (first ∷ rest) event h some next = subst IsOwed (sym next) h.0

-- and what comes where something is owed is one of these
pub due_is_owed : (p : Peer) (L : Entries) (at : ℕ) (event : Event) → (owed p L).events ≢ [] → IsNext p L at (owed p L).events event → IsOwed event
due_is_owed p L at event some next = next_is_owed p L at (owed p L).events event (owed_are_such p L).0 some next

-- ---- paying

-- what an event leaves that owes nothing
pub owes_none : (p : Peer) (L M : Entries) (at : ℕ) (event : Event) (before : Debt) → owes p L at event ≡ [] → owing p M (owes p L at event) before ≡ paid p M before
owes_none p L M at event before none = ap (λ (groups : List Group). owing p M groups before) none

-- the last group of a heartbeat is gossip, and its end
pub beat_owes : (p : Peer) (L : Entries) → reached p L (Gossips ∷ []) ≡ record { events = beats (gossip_topics p L); groups = [] }
beat_owes p L = by (gossip_topics p L)
  where
    by : (topics : List Topic) → held_or (beats topics) [] nothing ≡ record { events = beats topics; groups = [] }
    by [] = refl
    by (t ∷ topics) = refl

-- after the charges the groups of a heartbeat are owed, and nothing else
pub owed_at_beat : (p : Peer) (L : Entries) (e : Entry) → e.event ≡ BeatBegin → owed p (e ∷ L) ≡ reached p (e ∷ L) (heartbeat_groups e.at.0)
owed_at_beat p L e beat = ap (λ (event : Event). owing p (e ∷ L) (owes p L e.at.0 event) (owed p L)) beat

-- an entry that owes nothing leaves the rest of its group
pub owed_within : (p : Peer) (L : Entries) (e : Entry) (first second : Event) (rest : List Event) (groups : List Group) → owed p L ≡ record { events = first ∷ second ∷ rest; groups = groups } → owes p L e.at.0 e.event ≡ [] → owed p (e ∷ L) ≡ record { events = second ∷ rest; groups = groups }
owed_within p L e first second rest groups due none =
    owes_none p L (e ∷ L) e.at.0 e.event (owed p L) none ∙ ap (paid p (e ∷ L)) due

-- and after the last one of its group the next groups are reached
pub owed_behind : (p : Peer) (L : Entries) (e : Entry) (last : Event) (groups : List Group) → owed p L ≡ record { events = last ∷ []; groups = groups } → owes p L e.at.0 e.event ≡ [] → owed p (e ∷ L) ≡ reached p (e ∷ L) groups
owed_behind p L e last groups due none =
    owes_none p L (e ∷ L) e.at.0 e.event (owed p L) none ∙ ap (paid p (e ∷ L)) due

-- ---- what is owed in a legal trace

-- What holds of what is owed after each legal trace, where what is owed leaves it as it is.
module _ (p : Peer) (P : Entries → Event → Type 0) (stays : (L : Entries) (e : Entry) → IsOwed e.event → (event : Event) → P L event → P (e ∷ L) event) where
  all_stay : (L : Entries) (e : Entry) (events : List Event) → AllByRecursion IsOwed events → IsNext p L e.at.0 events e.event → AllByRecursion (P L) events → AllByRecursion (P (e ∷ L)) events
  all_stay L e [] own next all = tt
  all_stay L e (first ∷ rest) own next all =
      each_weaker (P L) (P (e ∷ L)) (stays L e (subst IsOwed (sym next) own.0)) (first ∷ rest) all

  pub always_such : ((L : Entries) (e : Entry) (q : PeerNo) (rpc : Rpc) → Legal p (e ∷ L) → e.event ≡ Heard q rpc → AllByRecursion (P (e ∷ L)) (parts q rpc))
      → ((at : ℕ) → ReachesSuch p (Legal p) P (heartbeat_groups at))
      → (L : Entries) → Legal p L → OwesSuch p (Legal p) P L (owed p L)
  always_such heard beat [] legal = (tt, tt)
  always_such heard beat (e ∷ L) legal =
      let before : OwesSuch p (Legal p) P L (owed p L) = always_such heard beat L legal.1 in
      owing_are_such p (Legal p) P L (e ∷ L) e.at.0 e.event (owed p L) legal (λ q rpc is. heard L e q rpc legal is) (beat e.at.0)
      (all_stay L e (owed p L).events (owed_are_such p L).0 (legal_newest p e L legal).next before.0, before.1)

-- ---- nothing that is owed

-- a debt that holds no event is none
abbrev IsNoneOrSome : Debt → Type 0
IsNoneOrSome debt = debt.events ≡ [] → debt ≡ nothing

held_none : (events : List Event) (groups : List Group) (otherwise : Debt) → IsNoneOrSome otherwise → IsNoneOrSome (held_or events groups otherwise)
held_none [] groups otherwise rest none = rest none
held_none (event ∷ events) groups otherwise rest none = absurd cc

reached_none : (p : Peer) (L : Entries) (groups : List Group) → IsNoneOrSome (reached p L groups)
reached_none p L [] none = refl
reached_none p L (group ∷ groups) none = held_none (events_in p L group) groups (reached p L groups) (reached_none p L groups) none

owing_none : (p : Peer) (L : Entries) (groups : List Group) (before : Debt) → IsNoneOrSome (owing p L groups before)
owing_none p L [] before none = held_none (drop 1 before.events) before.groups (reached p L before.groups) (reached_none p L before.groups) none
owing_none p L (group ∷ groups) before none = reached_none p L (group ∷ groups) none

-- so where no event is owed, no group is
pub no_event_is_nothing : (p : Peer) (L : Entries) → (owed p L).events ≡ [] → owed p L ≡ nothing
no_event_is_nothing p [] none = refl
no_event_is_nothing p (e ∷ L) none = owing_none p (e ∷ L) (owes p L e.at.0 e.event) (owed p L) none
