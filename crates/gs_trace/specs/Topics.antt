-- Whether an entry, a part of it, or a line of the script names a topic, which is given by its bytes.
use Rattle.std.specs.Prelude.{ℕ, Bool, false, ◌||◌, List, Option, None, Some, slice_get}
use Rattle.std.specs.List.{list_any}
use Rattle.gs_base.specs.declared.control.Control.{Control}
use Rattle.gs_base.specs.declared.control.Graft.{Graft}
use Rattle.gs_base.specs.declared.control.IHave.{IHave}
use Rattle.gs_base.specs.declared.control.Prune.{Prune}
use Rattle.gs_base.specs.declared.mark.Mark.{Mark}
use Rattle.gs_base.specs.declared.mark.Mark.TheVariants.{Seen, First, Near, Invalid, Deficit, Misbehaviour, Cached, Answered, Offered, Asked, Grafted, Pruned, Fanned, Unfanned, Backoff, Published}
use Rattle.gs_base.specs.declared.names.PeerNo.{PeerNo}
use Rattle.gs_base.specs.declared.names.Topic.{Topic}
use Rattle.gs_base.specs.declared.rpc.Message.{Message}
use Rattle.gs_base.specs.declared.rpc.Rpc.{Rpc}
use Rattle.gs_base.specs.declared.rpc.SubOpt.{SubOpt}
use Rattle.gs_plan.specs.declared.plan.Act.{Act}
use Rattle.gs_plan.specs.declared.plan.Act.TheVariants.{Subscribe, Unsubscribe, Publish, Raw, HangUp}
use Rattle.gs_plan.specs.declared.plan.Line.{Line}
use Rattle.gs_plan.specs.declared.plan.Plan.{Plan}
use Rattle.gs_rules.specs.declared.event.BeatStep.{BeatStep}
use Rattle.gs_rules.specs.declared.event.BeatStep.TheVariants.{MeshBeat, FanBeat, FanEnd, GossipBeat, BeatEnd}
use Rattle.gs_rules.specs.declared.event.Event.{Event}
use Rattle.gs_rules.specs.declared.event.Event.TheVariants.{Heard, Late, BeatBegin, Decay, RoundEnd, Shut, Part, Step, Own, Lost}
use Rattle.gs_rules.specs.declared.event.RpcPart.{RpcPart}
use Rattle.gs_rules.specs.declared.event.RpcPart.TheVariants.{Sub, Msg, Have, Want, GraftIn, PruneIn}
use Rattle.gs_rules.specs.declared.trace.Effects.{Effects}
use Rattle.gs_rules.specs.declared.trace.Entry.{Entry}
use Rattle.gs_rules.specs.Rules.{same_bytes}

abbrev pub is_topic : List ℕ → Topic → Bool
is_topic topic t = same_bytes t.0 topic

-- what is there names it
abbrev pub if_there : {A : Type 0} → (A → Bool) → Option A → Bool
if_there names None = false
if_there names (Some x) = names x

-- ---- RPCs

abbrev pub sub_names : List ℕ → SubOpt → Bool
sub_names topic s = if_there (is_topic topic) s.topic

abbrev pub message_names : List ℕ → Message → Bool
message_names topic m = if_there (is_topic topic) m.topic

abbrev pub ihave_names : List ℕ → IHave → Bool
ihave_names topic x = if_there (is_topic topic) x.topic

abbrev pub graft_names : List ℕ → Graft → Bool
graft_names topic x = if_there (is_topic topic) x.topic

abbrev pub prune_names : List ℕ → Prune → Bool
prune_names topic x = if_there (is_topic topic) x.topic

-- an IWANT names no topic
abbrev pub control_names : List ℕ → Control → Bool
control_names topic c =
    list_any (ihave_names topic) c.ihave || (list_any (graft_names topic) c.graft || list_any (prune_names topic) c.prune)

abbrev pub rpc_names : List ℕ → Rpc → Bool
rpc_names topic r =
    list_any (sub_names topic) r.subs
    || (list_any (message_names topic) r.publish || if_there (control_names topic) r.control)

abbrev pub part_names : List ℕ → RpcPart → Bool
part_names topic (Sub part) = sub_names topic part
part_names topic (Msg part) = message_names topic part
part_names topic (Have part) = ihave_names topic part
part_names topic (Want part) = false
part_names topic (GraftIn part) = graft_names topic part
part_names topic (PruneIn part) = prune_names topic part

-- ---- events

abbrev pub step_names : List ℕ → BeatStep → Bool
step_names topic (MeshBeat t) = is_topic topic t
step_names topic (FanBeat t) = is_topic topic t
step_names topic (FanEnd t) = is_topic topic t
step_names topic (GossipBeat t) = is_topic topic t
step_names topic BeatEnd = false

abbrev pub act_names : List ℕ → Act → Bool
act_names topic (Subscribe t) = is_topic topic t
act_names topic (Unsubscribe t) = is_topic topic t
act_names topic (Publish t payload) = is_topic topic t
act_names topic (Raw to bytes) = false
act_names topic (HangUp to) = false

abbrev pub event_names : List ℕ → Event → Bool
event_names topic (Heard q rpc) = rpc_names topic rpc
event_names topic (Late q rpc) = rpc_names topic rpc
event_names topic (Part q part) = part_names topic part
event_names topic BeatBegin = false
event_names topic (Step step) = step_names topic step
event_names topic (Own act) = act_names topic act
event_names topic (Lost q loss) = false
event_names topic Decay = false
event_names topic (RoundEnd r) = false
event_names topic Shut = false

-- ---- what was done

abbrev pub mark_names : List ℕ → Mark → Bool
mark_names topic (Seen id verdict) = false
mark_names topic (First q t id) = is_topic topic t
mark_names topic (Near q t id) = is_topic topic t
mark_names topic (Invalid q t) = is_topic topic t
mark_names topic (Deficit q t n) = is_topic topic t
mark_names topic (Misbehaviour q) = false
mark_names topic (Cached id t) = is_topic topic t
mark_names topic (Answered q id) = false
mark_names topic (Offered q) = false
mark_names topic (Asked q n) = false
mark_names topic (Grafted q t) = is_topic topic t
mark_names topic (Pruned q t) = is_topic topic t
mark_names topic (Fanned q t) = is_topic topic t
mark_names topic (Unfanned q t) = is_topic topic t
mark_names topic (Backoff q t until) = is_topic topic t
mark_names topic (Published t) = is_topic topic t

abbrev pub send_names : List ℕ → PeerNo × Rpc → Bool
send_names topic x = rpc_names topic x.1

abbrev pub delivery_names : List ℕ → Topic × List ℕ → Bool
delivery_names topic x = is_topic topic x.0

abbrev pub effects_name : List ℕ → Effects → Bool
effects_name topic e =
    list_any (send_names topic) e.sends
    || (list_any (delivery_names topic) e.delivered || list_any (mark_names topic) e.marks)

-- the event of an entry, an RPC that it sent, a delivery or a mark names it
abbrev pub entry_names : List ℕ → Entry → Bool
entry_names topic e = event_names topic e.event || effects_name topic e.effects

-- the line of the script at a place names it
abbrev pub line_names : Plan → List ℕ → ℕ → Bool
line_names plan topic place = if_there (λ (line : Line). act_names topic line.what) (slice_get plan.script place)
