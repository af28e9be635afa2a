-- What happens at an event: an RPC or a part of one is heard, a link is cut, or something comes to nothing.
use Rattle.std.specs.Prelude.{List, [], ◌∷◌, length}
use Rattle.gs_base.specs.declared.mark.Mark.{Mark}
use Rattle.gs_base.specs.declared.rpc.Message.{Message}
use Rattle.gs_base.specs.declared.control.IHave.{IHave}
use Rattle.gs_base.specs.declared.control.IWant.{IWant}
use Rattle.gs_base.specs.Names.{payload_of, topic_of, topic_or_empty}
use Rattle.gs_rules.specs.declared.event.Event.{Event}
use Rattle.gs_rules.specs.declared.event.Event.TheVariants.{Heard, Late, Part, BeatBegin, Step, Own, Lost, Decay, RoundEnd, Shut}
use Rattle.gs_rules.specs.declared.event.RpcPart.{RpcPart}
use Rattle.gs_rules.specs.declared.event.RpcPart.TheVariants.{Sub, Msg, Have, Want, GraftIn, PruneIn}
use Rattle.gs_rules.specs.declared.event.Loss.{Loss}
use Rattle.gs_rules.specs.declared.event.Loss.TheVariants.{Gone, Fault}
use Rattle.gs_rules.specs.declared.fallen.Fallen.{Fallen}
use Rattle.gs_rules.specs.declared.fallen.Fallen.TheVariants as fallen
use Rattle.gs_rules.specs.declared.fallen.NoAnswer.{NoAnswer}
use Rattle.gs_rules.specs.declared.fallen.NoAnswer.TheVariants.{Ignored, NotKept, TooOften}
use Rattle.gs_rules.specs.declared.outcome.GraftRefusal.{GraftRefusal}
use Rattle.gs_rules.specs.declared.outcome.GraftRefusal.TheVariants.{Explicit, TooSoon, Negative, Full}
use Rattle.gs_counts.specs.declared.fate.Fate.{Fate}
use Rattle.gs_counts.specs.declared.happening.Happening.{Happening}
use Rattle.gs_counts.specs.declared.happening.Scene.{Scene}
use Rattle.gs_counts.specs.declared.kind.Kind.{Kind}
use Rattle.gs_counts.specs.declared.kind.Kind.TheVariants as kinds
use Rattle.gs_counts.specs.Fates.{kind_of_fate, payload_kind}
use Rattle.gs_counts.specs.Happenings.{by_neighbour, heard_of, on_none, on_topic}

-- ---- parts of RPCs

-- one message, and the bytes of its payload
abbrev pub message_happenings : Scene → Message → Fate → List Happening
message_happenings s m fate =
    on_topic s (topic_of m) (kind_of_fate fate) 1
    ∷ on_topic s (topic_of m) (payload_kind fate) (length (payload_of m))
    ∷ []

-- one offer, and the identifiers in it
abbrev pub offer_happenings : Scene → IHave → List Happening
offer_happenings s offer =
    on_topic s (topic_or_empty offer.topic) kinds.IhaveHeard 1
    ∷ on_topic s (topic_or_empty offer.topic) kinds.IdsOffered (length offer.ids)
    ∷ []

-- one request, and the identifiers in it
abbrev pub request_happenings : Scene → IWant → List Happening
request_happenings s request =
    on_none s kinds.IwantHeard 1 ∷ on_none s kinds.IdsAsked (length request.ids) ∷ []

-- A part of an RPC. `fate` says what becomes of a message with these marks. Each kind of parts is named here, so that a new
-- one must be decided on.
abbrev pub part_happenings : (Message → List Mark → Fate) → Scene → RpcPart → List Mark → List Happening
part_happenings fate s (Sub sub) marks = on_topic s (topic_or_empty sub.topic) kinds.SubscriptionsHeard 1 ∷ []
part_happenings fate s (Msg m) marks = message_happenings s m (fate m marks)
part_happenings fate s (Have offer) marks = offer_happenings s offer
part_happenings fate s (Want request) marks = request_happenings s request
part_happenings fate s (GraftIn graft) marks = on_topic s (topic_or_empty graft.topic) kinds.GraftHeard 1 ∷ []
part_happenings fate s (PruneIn prune) marks = on_topic s (topic_or_empty prune.topic) kinds.PruneHeard 1 ∷ []

-- ---- events

-- an RPC without effect was not handled
abbrev pub rpc_happenings : Scene → List Fallen → List Happening
rpc_happenings s [] = on_none s kinds.RpcsHeard 1 ∷ []
rpc_happenings s (one ∷ others) = []

-- a link is cut because of its bytes
abbrev pub loss_happenings : Scene → Loss → List Happening
loss_happenings s Gone = []
loss_happenings s Fault = on_none s kinds.Faults 1 ∷ []

-- What an event with these marks counts as. `fallen` is what came to nothing at it. Each event is named here, so that a new
-- one must be decided on.
abbrev pub event_happenings
    : (Message → List Mark → Fate) → Scene → List Fallen → Event → List Mark → List Happening
event_happenings fate s fallen (Heard q rpc) marks = rpc_happenings (heard_of s q) fallen
event_happenings fate s fallen (Late q rpc) marks = []
event_happenings fate s fallen (Part q part) marks = part_happenings fate (heard_of s q) part marks
event_happenings fate s fallen BeatBegin marks = []
event_happenings fate s fallen (Step step) marks = []
event_happenings fate s fallen (Own act) marks = []
event_happenings fate s fallen (Lost q loss) marks = loss_happenings (heard_of s q) loss
event_happenings fate s fallen Decay marks = []
event_happenings fate s fallen (RoundEnd r) marks = []
event_happenings fate s fallen Shut marks = []

-- ---- what came to nothing

abbrev pub graft_refusal_kind : GraftRefusal → Kind
graft_refusal_kind Explicit = kinds.GraftRefusedExplicit
graft_refusal_kind TooSoon = kinds.GraftRefusedBackoff
graft_refusal_kind Negative = kinds.GraftRefusedScore
graft_refusal_kind Full = kinds.GraftRefusedFull

abbrev pub no_answer_kind : NoAnswer → Kind
no_answer_kind Ignored = kinds.IdsNotSentScore
no_answer_kind TooOften = kinds.IdsNotSentTooOften
no_answer_kind NotKept = kinds.IdsNotSentNotKept

-- A broken promise counts for the neighbour that broke it, and concerns the peer that waited.
abbrev pub fallen_happenings : Scene → Fallen → List Happening
fallen_happenings s (fallen.Graylisted q) = on_none (heard_of s q) kinds.RpcsGraylisted 1 ∷ []
fallen_happenings s (fallen.Late q) = on_none (heard_of s q) kinds.RpcsLate 1 ∷ []
fallen_happenings s (fallen.Graft q t why) = on_topic (heard_of s q) t (graft_refusal_kind why) 1 ∷ []
fallen_happenings s (fallen.Request q id why) = on_none (heard_of s q) (no_answer_kind why) 1 ∷ []
fallen_happenings s (fallen.Broken promise) = on_none (by_neighbour s promise.from) kinds.PromisesBroken 1 ∷ []
