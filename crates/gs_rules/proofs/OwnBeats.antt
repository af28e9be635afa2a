-- A heartbeat mends meshes of topics that the peer is subscribed to, and of no others.
use Rattle.std.proofs.Common.{◌≡◌, ℕ, Bool, true, ◌∷◌, filter}
use Rattle.std.specs.List.{AllByRecursion}
use Rattle.gs_base.specs.declared.names.Topic.{Topic}
use Rattle.gs_rules.specs.declared.event.Event.{Event}
use Rattle.gs_rules.specs.declared.event.Event.TheVariants.{Part, Step}
use Rattle.gs_rules.specs.declared.event.BeatStep.TheVariants.{MeshBeat, GossipBeat}
use Rattle.gs_rules.specs.declared.trace.Entry.{Entry}
use Rattle.gs_rules.specs.Peers.{Peer}
use Rattle.gs_rules.specs.Tables.{Entries, joined, joined_after, known, own_topics}
use Rattle.gs_rules.specs.Owed.{gossip_topics, heartbeat_groups, owed}
use Rattle.gs_rules.specs.Legal.{IsNext, Legal}
use Rattle.gs_rules.proofs.Each.{of_each}
use Rattle.gs_rules.proofs.Owed.{IsOwed, OwesSuch, ReachesSuch, always_such, heartbeat_is_such, next_is_such, parts_are_such}
use Rattle.gs_rules.proofs.Topics.{ascending_are, passing_are}

-- where the event mends a mesh, the peer is subscribed to its topic
abbrev pub IsOfOwn : Entries → Event → Type 0
IsOfOwn L (Step (MeshBeat t)) = joined L t ≡ true
IsOfOwn L other = Unit {0}

-- what is owed leaves the peer subscribed
stays_joined : (t : Topic) (event : Event) (before : Bool) → IsOwed event → before ≡ true → joined_after t event before ≡ true
stays_joined t (Part q part) before own is = is
stays_joined t (Step step) before own is = is
stays_joined t other before own is = absurd own

stays_own : (L : Entries) (e : Entry) → IsOwed e.event → (event : Event) → IsOfOwn L event → IsOfOwn (e ∷ L) event
stays_own L e own (Step (MeshBeat t)) is = stays_joined t e.event (joined L t) own is
stays_own L e own other is = tt

own_are : (L : Entries) → AllByRecursion (λ (t : Topic). joined L t ≡ true) (own_topics L)
own_are L =
    ascending_are (λ (t : Topic). joined L t ≡ true) (filter (joined L) (known L))
    (passing_are (λ (t : Topic). joined L t ≡ true) (joined L) (known L) (λ t is. is))

heartbeat_of_own : (p : Peer) (at : ℕ) → ReachesSuch p (Legal p) IsOfOwn (heartbeat_groups at)
heartbeat_of_own p at =
    heartbeat_is_such p (Legal p) IsOfOwn at (λ M legal. own_are M) (λ M t. tt) (λ M t. tt)
    (λ M legal. of_each (λ (t : Topic). IsOfOwn M (Step (GossipBeat t))) (λ t. tt) (gossip_topics p M)) (λ M. tt)

owed_own : (p : Peer) (L : Entries) → Legal p L → OwesSuch p (Legal p) IsOfOwn L (owed p L)
owed_own p L legal =
    always_such p IsOfOwn stays_own
    (λ M e q rpc goes_on is. parts_are_such (IsOfOwn (e ∷ M)) q rpc (λ part. tt))
    (heartbeat_of_own p) L legal

-- what comes next is of an own topic, as what is owed is
pub next_of_own : (p : Peer) (L : Entries) (at : ℕ) (event : Event) → Legal p L → IsNext p L at (owed p L).events event → IsOfOwn L event
next_of_own p L at (Step (MeshBeat t)) legal next = next_is_such (IsOfOwn L) p L at (owed p L).events (Step (MeshBeat t)) (owed_own p L legal).0 (λ h. h) next
next_of_own p L at other legal next = tt
