-- What happens when something is sent: the bytes of each RPC and each of its parts, once for each neighbour that it goes to.
use Rattle.std.specs.Prelude.{Bool, true, false, if◌then◌else◌, List, [], ◌∷◌, ◌++◌, length, Option, None, Some}
use Rattle.std.specs.List.{flat_map}
use Rattle.gs_base.specs.declared.names.PeerNo.{PeerNo}
use Rattle.gs_base.specs.declared.rpc.Message.{Message}
use Rattle.gs_base.specs.declared.rpc.Rpc.{Rpc}
use Rattle.gs_base.specs.declared.rpc.SubOpt.{SubOpt}
use Rattle.gs_base.specs.declared.control.Control.{Control}
use Rattle.gs_base.specs.declared.control.Graft.{Graft}
use Rattle.gs_base.specs.declared.control.IHave.{IHave}
use Rattle.gs_base.specs.declared.control.IWant.{IWant}
use Rattle.gs_base.specs.declared.control.Prune.{Prune}
use Rattle.gs_base.specs.Names.{topic_of, topic_or_empty}
use Rattle.gs_wire.specs.Codec.{codec}
use Rattle.gs_wire.specs.Messages.{body}
use Rattle.gs_rules.specs.declared.event.Event.{Event}
use Rattle.gs_rules.specs.declared.event.RpcPart.{RpcPart}
use Rattle.gs_rules.specs.declared.event.RpcPart.TheVariants.{Sub, Msg, Have, Want, GraftIn, PruneIn}
use Rattle.gs_rules.specs.Events.{of_part}
use Rattle.gs_counts.specs.declared.happening.Happening.{Happening}
use Rattle.gs_counts.specs.declared.happening.Scene.{Scene}
use Rattle.gs_counts.specs.declared.kind.Kind.{Kind}
use Rattle.gs_counts.specs.declared.kind.Kind.TheVariants as kinds
use Rattle.gs_counts.specs.Happenings.{heard_of, on_none, on_topic}

-- ---- what asks for an answer

abbrev pub is_request : RpcPart → Bool
is_request (Want request) = true
is_request (Sub sub) = false
is_request (Msg m) = false
is_request (Have offer) = false
is_request (GraftIn graft) = false
is_request (PruneIn prune) = false

-- what is sent at the event answers a request
abbrev pub is_answer : Event → Bool
is_answer event = of_part (λ q part. is_request part) false event

-- ---- each part

abbrev pub message_sent_kind : Bool → Kind
message_sent_kind true = kinds.MessagesAnswered
message_sent_kind false = kinds.MessagesPushed

abbrev pub sub_sent : Scene → SubOpt → List Happening
sub_sent s sub = on_topic s (topic_or_empty sub.topic) kinds.SubscriptionsSent 1 ∷ []

abbrev pub message_sent : Scene → Kind → Message → List Happening
message_sent s kind m = on_topic s (topic_of m) kind 1 ∷ []

-- an offer, and the identifiers in it
abbrev pub ihave_sent : Scene → IHave → List Happening
ihave_sent s offer =
    on_topic s (topic_or_empty offer.topic) kinds.IhaveSent 1
    ∷ on_topic s (topic_or_empty offer.topic) kinds.IdsOfferedSent (length offer.ids)
    ∷ []

-- a request, and the identifiers in it
abbrev pub iwant_sent : Scene → IWant → List Happening
iwant_sent s request =
    on_none s kinds.IwantSent 1 ∷ on_none s kinds.IdsAskedSent (length request.ids) ∷ []

abbrev pub graft_sent : Scene → Graft → List Happening
graft_sent s graft = on_topic s (topic_or_empty graft.topic) kinds.GraftSent 1 ∷ []

abbrev pub prune_sent : Scene → Prune → List Happening
prune_sent s prune = on_topic s (topic_or_empty prune.topic) kinds.PruneSent 1 ∷ []

-- ---- RPCs

abbrev pub control_sent : Scene → Option Control → List Happening
control_sent s None = []
control_sent s (Some control) =
    flat_map (ihave_sent s) control.ihave
    ++ (flat_map (iwant_sent s) control.iwant
    ++ (flat_map (graft_sent s) control.graft ++ flat_map (prune_sent s) control.prune))

-- what the bytes of an RPC count as, by its messages and its control messages
abbrev pub bytes_kind : List Message → Option Control → Kind
bytes_kind (m ∷ ms) control = kinds.MessageBytesSent
bytes_kind [] (Some control) = kinds.ControlBytesSent
bytes_kind [] None = kinds.SubscriptionBytesSent

-- the bytes of its body, if it fits a frame: an RPC that fits none does not count, and no run sends it
abbrev pub bytes_sent : Scene → Rpc → List Happening
bytes_sent s rpc =
    if codec.fits rpc then on_none s (bytes_kind rpc.publish rpc.control) (length (body rpc)) ∷ [] else []

abbrev pub rpc_sent : Scene → Bool → Rpc → List Happening
rpc_sent s answers rpc =
    bytes_sent s rpc
    ++ (flat_map (sub_sent s) rpc.subs
    ++ (flat_map (message_sent s (message_sent_kind answers)) rpc.publish ++ control_sent s rpc.control))

-- an RPC that is sent to a neighbour
abbrev pub send_happenings : Scene → Bool → PeerNo × Rpc → List Happening
send_happenings s answers x = rpc_sent (heard_of s x.0) answers x.1
