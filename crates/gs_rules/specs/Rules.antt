-- What a peer does about an event: for each event one rule, which gives the effects. An entry is its moment, its event
-- and these effects. Rules look only at the trace before the entry.
use Rattle.std.specs.Prelude.{ℕ, ◌+◌, ◌-◌, min, Bool, not, ◌&&◌, ◌||◌, nat_eq, nat_le, nat_lt, if◌then◌else◌, List, [], ◌∷◌, ◌++◌, length, take, map, filter, fold, get_or, Option, Some, None, is_some, option_map}
use Rattle.std.specs.List.{list_any}
use Rattle.std.specs.Cmp.Lexicographic.{pointwise}
use Rattle.gs_base.specs.declared.names.PeerNo.{PeerNo}
use Rattle.gs_base.specs.declared.names.Topic.{Topic}
use Rattle.gs_base.specs.declared.names.Millis.{Millis}
use Rattle.gs_base.specs.declared.rpc.Message.{Message}
use Rattle.gs_base.specs.declared.names.MsgId.{MsgId}
use Rattle.gs_base.specs.declared.control.IHave.{IHave}
use Rattle.gs_base.specs.declared.control.IWant.{IWant}
use Rattle.gs_base.specs.Names.{same_id, topic_or_empty}
use Rattle.gs_base.specs.declared.mark.Mark.TheVariants.{Answered, Offered, Asked}
use Rattle.gs_mesh.specs.Peers.{is_among}
use Rattle.gs_base.specs.Rpcs.{most_identifiers, offering, passed_on, requesting}
use Rattle.gs_rules.specs.declared.event.Event.{Event}
use Rattle.gs_rules.specs.declared.event.Event.TheVariants.{Heard, Late, Part, BeatBegin, Step, Own, Lost, Decay, RoundEnd, Shut}
use Rattle.gs_rules.specs.declared.event.RpcPart.TheVariants.{GraftIn, Have, Msg, PruneIn, Sub, Want}
use Rattle.gs_rules.specs.declared.event.BeatStep.TheVariants.{BeatEnd, FanBeat, FanEnd, GossipBeat, MeshBeat}
use Rattle.gs_rules.specs.declared.event.RpcPart.{RpcPart}
use Rattle.gs_rules.specs.declared.event.BeatStep.{BeatStep}
use Rattle.gs_plan.specs.declared.plan.Act.{Act}
use Rattle.gs_plan.specs.declared.plan.Act.TheVariants.{HangUp, Publish, Raw, Subscribe, Unsubscribe}
use Rattle.gs_rules.specs.declared.trace.Effects.{Effects}
use Rattle.gs_rules.specs.Peers.{Peer, seen_ttl, windows}
use Rattle.gs_rules.specs.Tables.{Entries, Keeping, answered, asked, joined, kept, last_millis, offers, seen}
use Rattle.gs_rules.specs.Meshes.{fanout, mesh}
use Rattle.gs_rules.specs.Scoring.{is_ignored}
use Rattle.gs_rules.specs.Gossip.{all_charges, gossip, gossip_size}
pub use Rattle.gs_rules.specs.Rule.{AnyOf, CutOf, Gives, OneOf, Rule, no_effects, explicit_listeners, listeners, ordinary_listeners, to_each, together_with, up_neighbours, without}
use Rattle.gs_rules.specs.Outcomes.{message_rule}
use Rattle.gs_rules.specs.BeatRules.{fan_beat_rule, fan_end, mesh_beat_rule}
use Rattle.gs_rules.specs.MeshRules.{graft_rule, lost_rule, prune_rule, publish_rule, sub_rule, subscribe_rule, unsubscribe_rule}

-- ---- offers (gossipsub v1.0, "Control messages", IHAVE)

-- an offer that counts, and nothing else
abbrev pub counted : PeerNo → Effects
counted q = record no_effects { marks = Offered q ∷ [] }

-- the bytes of an identifier of a message that was not seen lately
abbrev pub is_wanted : Peer → Entries → ℕ → List ℕ → Bool
is_wanted p L at bytes =
    nat_eq (length bytes) 32 && not (is_some (seen (seen_ttl p) L (record { 0 = bytes }) at))

abbrev pub same_bytes : List ℕ → List ℕ → Bool
same_bytes xs ys = pointwise nat_eq xs ys

-- one more identifier after others, if it is not among them
abbrev pub once_after : List (List ℕ) → List ℕ → List (List ℕ)
once_after before id = if list_any (same_bytes id) before then before else before ++ id ∷ []

-- each of these once, in the order in which they come first
abbrev pub each_once : List (List ℕ) → List (List ℕ)
each_once ids = fold once_after [] ids

-- how many more identifiers a neighbour may be asked for; a request never has more than an RPC may have
abbrev pub room_to_ask : Peer → Entries → PeerNo → ℕ
room_to_ask p L q = min p.params.timing.max_ihave_ids most_identifiers - asked L q

-- the identifiers that a neighbour is asked for if it offers these
abbrev pub wanted : Peer → Entries → ℕ → PeerNo → List (List ℕ) → List (List ℕ)
wanted p L at q ids = take (room_to_ask p L q) (each_once (filter (is_wanted p L at) ids))

-- A neighbour is asked for these, and promises the one at this place.
abbrev pub asking : Peer → Millis → PeerNo → List (List ℕ) → ℕ → Effects
asking p at q ids place = record no_effects {
  sends = (q, requesting ids) ∷ [];
  promise = Some (record {
    from = q;
    id = record { 0 = get_or ids place [] };
    until = record { 0 = min last_millis (at.0 + p.params.timing.iwant_followup_ms) };
  });
  marks = Offered q ∷ Asked q (length ids) ∷ [];
}

-- a neighbour is asked for what is wanted, if anything is, and promises any one of that
abbrev pub asked_for : Peer → Millis → PeerNo → List (List ℕ) → Rule
asked_for p at q [] = Gives (counted q)
asked_for p at q (id ∷ ids) =
    OneOf (length (id ∷ ids)) (λ place. Gives (asking p at q (id ∷ ids) place))

-- An offer counts if its sender is not ignored and has not made too many. If the peer is not subscribed to its topic,
-- nothing is wanted.
abbrev pub have_rule : Peer → Entries → Millis → PeerNo → IHave → Rule
have_rule p L at q offer =
    if is_ignored p L at.0 q then Gives no_effects
    else if nat_le p.params.timing.max_ihave (offers L q) then Gives no_effects
    else if not (joined L (topic_or_empty offer.topic)) then Gives (counted q)
    else asked_for p at q (wanted p L at.0 q offer.ids)

-- ---- requests (gossipsub v1.0, "Control messages", IWANT)

-- the identifiers among these bytes: those of 32 bytes
abbrev pub ids_in : List (List ℕ) → List MsgId
ids_in all = map (λ bytes. record { 0 = bytes }) (filter (λ bytes. nat_eq (length bytes) 32) all)

-- how often an identifier is among these
abbrev pub times_in : MsgId → List MsgId → ℕ
times_in id ids = length (filter (same_id id) ids)

-- the message that a neighbour gets for an identifier: the kept one, unless the neighbour got it as often as it may. The
-- number says how often the identifier came before in the same request.
abbrev pub answer : Peer → Entries → PeerNo → MsgId → ℕ → Option Message
answer p L q id ahead =
    if nat_lt (answered L q id + ahead) p.params.timing.gossip_retransmission
    then option_map (λ (k : Keeping). k.message) (kept (windows p) L id)
    else None

-- an identifier with its message, if there is one
abbrev pub with_message : MsgId → Option Message → List (MsgId × Message)
with_message id None = []
with_message id (Some m) = (id, m) ∷ []

-- the messages that a neighbour gets for these identifiers, after others of the same request
abbrev pub answers : Peer → Entries → PeerNo → List MsgId → List MsgId → List (MsgId × Message)
answers p L q ahead [] = []
answers p L q ahead (id ∷ ids) =
    with_message id (answer p L q id (times_in id ahead)) ++ answers p L q (ahead ++ id ∷ []) ids

-- it gets them one by one, and each counts
abbrev pub answering : PeerNo → List (MsgId × Message) → Effects
answering q given = record no_effects {
  sends = map (λ (x : MsgId × Message). (q, passed_on x.1)) given;
  marks = map (λ (x : MsgId × Message). Answered q x.0) given;
}

abbrev pub want_rule : Peer → Entries → Millis → PeerNo → IWant → Effects
want_rule p L at q request =
    if is_ignored p L at.0 q then no_effects
    else answering q (answers p L q [] (ids_in request.ids))

-- ---- heartbeats

-- at a heartbeat each broken promise counts against the neighbour that made it
abbrev pub beat_begin_rule : Peer → Entries → Millis → Effects
beat_begin_rule p L at = record no_effects { marks = all_charges p L at.0 }

-- these neighbours are offered what there is on a topic
abbrev pub gossiping : Peer → Entries → Topic → List PeerNo → Effects
gossiping p L t chosen = record no_effects {
  sends = to_each (offering t (map (λ (id : MsgId). id.0) (gossip p L t))) chosen;
}

-- the neighbours that may be offered what there is on a topic: up, on it, not explicit, not ignored, and outside its mesh
-- and its fanout
abbrev pub gossip_candidates : Peer → Entries → ℕ → Topic → List PeerNo
gossip_candidates p L at t =
    without (is_ignored p L at) (without (λ q. is_among (mesh L t) q || is_among (fanout L t) q) (ordinary_listeners p L t))

-- any of these are offered it
abbrev pub gossip_rule : Peer → Entries → Millis → Topic → Rule
gossip_rule p L at t =
    AnyOf (gossip_size p (length (gossip_candidates p L at.0 t))) (gossip_candidates p L at.0 t)
    (λ chosen. Gives (gossiping p L t chosen))

-- ---- all events

-- the rule of a part of an RPC
abbrev pub part_rule : Peer → Entries → Millis → PeerNo → RpcPart → Rule
part_rule p L at q (Sub sub) = Gives (sub_rule p L at q sub)
part_rule p L at q (Msg m) = Gives (message_rule p L at q m)
part_rule p L at q (Have offer) = have_rule p L at q offer
part_rule p L at q (Want request) = Gives (want_rule p L at q request)
part_rule p L at q (GraftIn graft) = Gives (graft_rule p L at q (topic_or_empty graft.topic))
part_rule p L at q (PruneIn prune) = Gives (prune_rule p L at q prune)

-- the rule of a step of a heartbeat
abbrev pub step_rule : Peer → Entries → Millis → BeatStep → Rule
step_rule p L at (MeshBeat t) = mesh_beat_rule p L at t
step_rule p L at (FanBeat t) = fan_beat_rule p L at t
step_rule p L at (FanEnd t) = Gives (fan_end L t)
step_rule p L at (GossipBeat t) = gossip_rule p L at t
step_rule p L at BeatEnd = Gives no_effects

-- the rule of an act of the user
abbrev pub act_rule : Peer → Entries → Millis → Act → Rule
act_rule p L at (Subscribe t) = subscribe_rule p L at t
act_rule p L at (Unsubscribe t) = Gives (unsubscribe_rule p L at t)
act_rule p L at (Publish t payload) = publish_rule p L at t payload
act_rule p L at (HangUp q) = Gives (lost_rule p L at q)
act_rule p L at (Raw q bytes) = Gives no_effects

-- The rule of an event. Whoever is lost leaves every mesh and every fanout.
abbrev pub rule_of : Peer → Entries → Millis → Event → Rule
rule_of p L at (Heard q rpc) = Gives no_effects
rule_of p L at (Late q rpc) = Gives no_effects
rule_of p L at (Part q part) = part_rule p L at q part
rule_of p L at BeatBegin = Gives (beat_begin_rule p L at)
rule_of p L at (Step step) = step_rule p L at step
rule_of p L at (Own act) = act_rule p L at act
rule_of p L at (Lost q loss) = Gives (lost_rule p L at q)
rule_of p L at Decay = Gives no_effects
rule_of p L at (RoundEnd r) = Gives no_effects
rule_of p L at Shut = Gives no_effects
