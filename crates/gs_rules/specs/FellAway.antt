-- What neighbours sent or promised in vain, by the event that shows it.
use Rattle.std.specs.Prelude.{ℕ, if◌then◌else◌, is_some, List, [], ◌∷◌, ◌++◌, map, Option, Some, None}
use Rattle.std.specs.List.{flat_map}
use Rattle.gs_base.specs.declared.names.Millis.{Millis}
use Rattle.gs_base.specs.declared.names.MsgId.{MsgId}
use Rattle.gs_base.specs.declared.names.PeerNo.{PeerNo}
use Rattle.gs_base.specs.declared.names.Topic.{Topic}
use Rattle.gs_base.specs.declared.control.IWant.{IWant}
use Rattle.gs_base.specs.declared.rpc.Message.{Message}
use Rattle.gs_base.specs.Names.{topic_or_empty}
use Rattle.gs_rules.specs.declared.event.Event.{Event}
use Rattle.gs_rules.specs.declared.event.Event.TheVariants.{Heard, Late, Part, BeatBegin, Step, Own, Lost, Decay, RoundEnd, Shut}
use Rattle.gs_rules.specs.declared.event.RpcPart.{RpcPart}
use Rattle.gs_rules.specs.declared.event.RpcPart.TheVariants.{Sub, Msg, Have, Want, GraftIn, PruneIn}
use Rattle.gs_rules.specs.declared.fallen.Fallen.{Fallen}
use Rattle.gs_rules.specs.declared.fallen.Fallen.TheVariants as fallen
use Rattle.gs_rules.specs.declared.fallen.NoAnswer.{NoAnswer}
use Rattle.gs_rules.specs.declared.fallen.NoAnswer.TheVariants.{Ignored, NotKept, TooOften}
use Rattle.gs_rules.specs.declared.outcome.GraftAnswer.{GraftAnswer}
use Rattle.gs_rules.specs.declared.outcome.GraftAnswer.TheVariants.{PassedOver, Refused, Taken}
use Rattle.gs_rules.specs.declared.trace.Promise.{Promise}
use Rattle.gs_rules.specs.Peers.{Peer, links_of, windows}
use Rattle.gs_rules.specs.Tables.{Entries, kept, up}
use Rattle.gs_rules.specs.Scoring.{is_graylisted, is_ignored}
use Rattle.gs_rules.specs.Gossip.{overdue}
use Rattle.gs_rules.specs.MeshRules.{graft_answer}
use Rattle.gs_rules.specs.Rules.{answer, ids_in, times_in}

-- ---- GRAFTs

-- a GRAFT that gets this answer, if it is refused
abbrev pub fallen_graft : PeerNo → Topic → GraftAnswer → List Fallen
fallen_graft q t PassedOver = []
fallen_graft q t (Refused why) = fallen.Graft q t why ∷ []
fallen_graft q t Taken = []

-- ---- requests

-- why there is no message for an identifier
abbrev pub why_no_answer : Peer → Entries → MsgId → NoAnswer
why_no_answer p L id = if is_some (kept (windows p) L id) then TooOften else NotKept

-- an identifier that gets this answer
abbrev pub without_answer : PeerNo → MsgId → NoAnswer → Option Message → List Fallen
without_answer q id why None = fallen.Request q id why ∷ []
without_answer q id why (Some m) = []

-- which of these identifiers get no message, after others of the same request
abbrev pub without_answers : Peer → Entries → PeerNo → List MsgId → List MsgId → List Fallen
without_answers p L q ahead [] = []
without_answers p L q ahead (id ∷ ids) =
    without_answer q id (why_no_answer p L id) (answer p L q id (times_in id ahead))
    ++ without_answers p L q (ahead ++ id ∷ []) ids

-- a request from an ignored neighbour gets no message
abbrev pub fallen_request : Peer → Entries → ℕ → PeerNo → IWant → List Fallen
fallen_request p L at q request =
    if is_ignored p L at q
    then map (λ id. fallen.Request q id Ignored) (ids_in request.ids)
    else without_answers p L q [] (ids_in request.ids)

-- ---- promises

-- the promises that a neighbour has not kept in time, if it is up: whoever is lost is charged with none
abbrev pub broken_by : Entries → ℕ → PeerNo → List Promise
broken_by L at q = if up L q then overdue L at q else []

abbrev pub broken : Peer → Entries → ℕ → List Promise
broken p L at = flat_map (broken_by L at) (links_of p)

-- ---- all events

abbrev pub fallen_part : Peer → Entries → ℕ → PeerNo → RpcPart → List Fallen
fallen_part p L at q (Sub sub) = []
fallen_part p L at q (Msg m) = []
fallen_part p L at q (Have offer) = []
fallen_part p L at q (Want request) = fallen_request p L at q request
fallen_part p L at q (GraftIn graft) =
    fallen_graft q (topic_or_empty graft.topic) (graft_answer p L at q (topic_or_empty graft.topic))
fallen_part p L at q (PruneIn prune) = []

-- what was in vain at an event, by the trace before it
abbrev pub fell_away : Peer → Entries → Millis → Event → List Fallen
fell_away p L at (Heard q rpc) = if is_graylisted p L at.0 q then fallen.Graylisted q ∷ [] else []
fell_away p L at (Late q rpc) = fallen.Late q ∷ []
fell_away p L at (Part q part) = fallen_part p L at.0 q part
fell_away p L at BeatBegin = map fallen.Broken (broken p L at.0)
fell_away p L at (Step step) = []
fell_away p L at (Own act) = []
fell_away p L at (Lost q loss) = []
fell_away p L at Decay = []
fell_away p L at (RoundEnd r) = []
fell_away p L at Shut = []
