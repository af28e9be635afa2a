-- The texts of what happened at a peer, and of what it did about it.
use Rattle.std.specs.Prelude.{ℕ, List, ◌++◌, codes, decimal}
use Rattle.gs_base.specs.declared.mark.Mark.{Mark}
use Rattle.gs_base.specs.declared.mark.Mark.TheVariants.{Seen, First, Near, Invalid, Deficit, Misbehaviour, Cached, Answered, Offered, Asked, Grafted, Pruned, Fanned, Unfanned, Backoff, Published}
use Rattle.gs_base.specs.declared.names.PeerNo.{PeerNo}
use Rattle.gs_base.specs.declared.names.Topic.{Topic}
use Rattle.gs_base.specs.declared.rpc.Rpc.{Rpc}
use Rattle.gs_base.specs.declared.verdict.Verdict.{Verdict}
use Rattle.gs_base.specs.declared.verdict.Verdict.TheVariants.{Accept, Reject, Ignore}
use Rattle.gs_base.specs.Names.{message_id, payload_of}
use Rattle.gs_plan.specs.Plans.{what_word}
use Rattle.gs_plan.specs.declared.plan.Act.{Act}
use Rattle.gs_plan.specs.declared.plan.Act.TheVariants.{Subscribe, Unsubscribe, Publish, Raw, HangUp}
use Rattle.gs_rules.specs.declared.event.Event.{Event}
use Rattle.gs_rules.specs.declared.event.Event.TheVariants.{Heard, Late, BeatBegin, Decay, RoundEnd, Shut, Part, Step, Own, Lost}
use Rattle.gs_rules.specs.declared.event.RpcPart.{RpcPart}
use Rattle.gs_rules.specs.declared.event.RpcPart.TheVariants.{Sub, Msg, Have, Want, GraftIn, PruneIn}
use Rattle.gs_rules.specs.declared.event.BeatStep.{BeatStep}
use Rattle.gs_rules.specs.declared.event.BeatStep.TheVariants.{MeshBeat, FanBeat, FanEnd, GossipBeat, BeatEnd}
use Rattle.gs_rules.specs.declared.event.Loss.{Loss}
use Rattle.gs_rules.specs.declared.event.Loss.TheVariants.{Gone, Fault}
use Rattle.gs_rules.specs.declared.trace.Effects.{Effects}
use Rattle.gs_rules.specs.declared.trace.Promise.{Promise}
use Rattle.gs_trace.specs.Texts.{hex_text, id_text, list_text, moment_text, optional_text, peer_text, topic_text, whole_text}
use Rattle.gs_trace.specs.Rpcs.{graft_text, ihave_text, iwant_text, message_text, prune_text, rpc_text, sub_text}

-- ---- events, as members of an object

-- which event it is
abbrev pub event_text : List ℕ → List ℕ
event_text word = codes "\"event\":\"" ++ word ++ codes "\""

-- which neighbour it came from
abbrev pub from_text : List (List ℕ) → PeerNo → List ℕ
from_text names q = codes ",\"from\":" ++ peer_text names q

abbrev pub rpc_member : Rpc → List ℕ
rpc_member rpc = codes ",\"rpc\":" ++ rpc_text rpc

abbrev pub topic_member : Topic → List ℕ
topic_member t = codes ",\"topic\":" ++ topic_text t

-- what was published, and the identifier that this gives it
abbrev pub payload_members : List ℕ → List ℕ
payload_members payload = codes ",\"data\":" ++ hex_text payload ++ codes ",\"id\":" ++ id_text (message_id payload)

abbrev pub part_word : RpcPart → List ℕ
part_word (Sub part) = codes "subscription"
part_word (Msg part) = codes "message"
part_word (Have part) = codes "ihave"
part_word (Want part) = codes "iwant"
part_word (GraftIn part) = codes "graft"
part_word (PruneIn part) = codes "prune"

-- the part as it stands in its RPC, and for a message also its identifier
abbrev pub part_text : RpcPart → List ℕ
part_text (Sub part) = sub_text part
part_text (Msg part) = message_text part ++ codes ",\"id\":" ++ id_text (message_id (payload_of part))
part_text (Have part) = ihave_text part
part_text (Want part) = iwant_text part
part_text (GraftIn part) = graft_text part
part_text (PruneIn part) = prune_text part

abbrev pub step_word : BeatStep → List ℕ
step_word (MeshBeat t) = codes "mesh"
step_word (FanBeat t) = codes "fanout"
step_word (FanEnd t) = codes "fanout_end"
step_word (GossipBeat t) = codes "gossip"
step_word BeatEnd = codes "heartbeat_end"

abbrev pub loss_word : Loss → List ℕ
loss_word Gone = codes "gone"
loss_word Fault = codes "fault"

-- the word of an event
abbrev pub event_word : Event → List ℕ
event_word (Heard q rpc) = codes "heard"
event_word (Late q rpc) = codes "late"
event_word (Part q part) = part_word part
event_word BeatBegin = codes "heartbeat"
event_word (Step step) = step_word step
event_word (Own act) = what_word act
event_word (Lost q loss) = loss_word loss
event_word Decay = codes "decay"
event_word (RoundEnd r) = codes "round_end"
event_word Shut = codes "shut"

-- and the word of a line of the script that was refused
abbrev pub refused_word : List ℕ
refused_word = codes "refused"

abbrev pub step_members : BeatStep → List ℕ
step_members (MeshBeat t) = event_text (step_word (MeshBeat t)) ++ topic_member t
step_members (FanBeat t) = event_text (step_word (FanBeat t)) ++ topic_member t
step_members (FanEnd t) = event_text (step_word (FanEnd t)) ++ topic_member t
step_members (GossipBeat t) = event_text (step_word (GossipBeat t)) ++ topic_member t
step_members BeatEnd = event_text (step_word BeatEnd)

abbrev pub act_members : List (List ℕ) → Act → List ℕ
act_members names (Subscribe t) = event_text (what_word (Subscribe t)) ++ topic_member t
act_members names (Unsubscribe t) = event_text (what_word (Unsubscribe t)) ++ topic_member t
act_members names (Publish t payload) =
    event_text (what_word (Publish t payload)) ++ topic_member t ++ payload_members payload
act_members names (Raw q bytes) =
    event_text (what_word (Raw q bytes)) ++ codes ",\"to\":" ++ peer_text names q
    ++ codes ",\"bytes\":" ++ hex_text bytes
act_members names (HangUp q) = event_text (what_word (HangUp q)) ++ codes ",\"to\":" ++ peer_text names q

abbrev pub event_members : List (List ℕ) → Event → List ℕ
event_members names (Heard q rpc) = event_text (event_word (Heard q rpc)) ++ from_text names q ++ rpc_member rpc
event_members names (Late q rpc) = event_text (event_word (Late q rpc)) ++ from_text names q ++ rpc_member rpc
event_members names (Part q part) =
    event_text (event_word (Part q part)) ++ from_text names q ++ codes ",\"part\":" ++ part_text part
event_members names BeatBegin = event_text (event_word BeatBegin)
event_members names (Step step) = step_members step
event_members names (Own act) = act_members names act
event_members names (Lost q loss) = event_text (event_word (Lost q loss)) ++ from_text names q
event_members names Decay = event_text (event_word Decay)
event_members names (RoundEnd r) = event_text (event_word (RoundEnd r)) ++ codes ",\"number\":" ++ decimal r
event_members names Shut = event_text (event_word Shut)

-- ---- marks

abbrev pub verdict_word : Verdict → List ℕ
verdict_word Accept = codes "accept"
verdict_word Reject = codes "reject"
verdict_word Ignore = codes "ignore"

-- what begins a mark
abbrev pub mark_text : List ℕ → List ℕ
mark_text word = codes "{\"mark\":\"" ++ word ++ codes "\""

abbrev pub peer_member : List (List ℕ) → PeerNo → List ℕ
peer_member names q = codes ",\"peer\":" ++ peer_text names q

-- a mark about a neighbour, and a mark about a neighbour on a topic
abbrev pub mark_of : List ℕ → List (List ℕ) → PeerNo → List ℕ
mark_of word names q = mark_text word ++ peer_member names q

abbrev pub mark_on : List ℕ → List (List ℕ) → PeerNo → Topic → List ℕ
mark_on word names q t = mark_of word names q ++ topic_member t

abbrev pub mark_members : List (List ℕ) → Mark → List ℕ
mark_members names (Seen id verdict) =
    mark_text (codes "seen") ++ codes ",\"id\":" ++ id_text id
    ++ codes ",\"verdict\":\"" ++ verdict_word verdict ++ codes "\""
mark_members names (First q t id) = mark_on (codes "first") names q t ++ codes ",\"id\":" ++ id_text id
mark_members names (Near q t id) = mark_on (codes "near") names q t ++ codes ",\"id\":" ++ id_text id
mark_members names (Invalid q t) = mark_on (codes "invalid") names q t
mark_members names (Deficit q t n) = mark_on (codes "deficit") names q t ++ codes ",\"millionths\":" ++ whole_text n
mark_members names (Misbehaviour q) = mark_of (codes "misbehaviour") names q
mark_members names (Cached id t) =
    mark_text (codes "cached") ++ codes ",\"id\":" ++ id_text id ++ topic_member t
mark_members names (Answered q id) = mark_of (codes "answered") names q ++ codes ",\"id\":" ++ id_text id
mark_members names (Offered q) = mark_of (codes "offered") names q
mark_members names (Asked q n) = mark_of (codes "asked") names q ++ codes ",\"count\":" ++ decimal n
mark_members names (Grafted q t) = mark_on (codes "grafted") names q t
mark_members names (Pruned q t) = mark_on (codes "pruned") names q t
mark_members names (Fanned q t) = mark_on (codes "fanned") names q t
mark_members names (Unfanned q t) = mark_on (codes "unfanned") names q t
mark_members names (Backoff q t until) = mark_on (codes "backoff") names q t ++ codes ",\"until\":" ++ moment_text until
mark_members names (Published t) = mark_text (codes "published") ++ topic_member t

abbrev pub mark_object : List (List ℕ) → Mark → List ℕ
mark_object names mark = mark_members names mark ++ codes "}"

-- ---- what was done

abbrev pub send_text : List (List ℕ) → PeerNo × Rpc → List ℕ
send_text names x = codes "{\"to\":" ++ peer_text names x.0 ++ rpc_member x.1 ++ codes "}"

abbrev pub delivery_text : Topic × List ℕ → List ℕ
delivery_text x = codes "{\"topic\":" ++ topic_text x.0 ++ payload_members x.1 ++ codes "}"

abbrev pub promise_text : List (List ℕ) → Promise → List ℕ
promise_text names p =
    codes "{\"from\":" ++ peer_text names p.from ++ codes ",\"id\":" ++ id_text p.id
    ++ codes ",\"until\":" ++ moment_text p.until ++ codes "}"

abbrev pub effects_members : List (List ℕ) → Effects → List ℕ
effects_members names e =
    codes ",\"sent\":" ++ list_text (send_text names) e.sends
    ++ codes ",\"delivered\":" ++ list_text delivery_text e.delivered
    ++ codes ",\"promise\":" ++ optional_text (promise_text names) e.promise
    ++ codes ",\"marks\":" ++ list_text (mark_object names) e.marks
