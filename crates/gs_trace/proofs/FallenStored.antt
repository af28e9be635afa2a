-- What came to nothing at entries in memory is in memory.
use Rattle.std.proofs.Common.{ℕ, List, [], ◌∷◌, ◌++◌, filter, flat_map, map, nat_eq, length, Option, None, Some}
use Rattle.std.specs.List.{AllByRecursion}
use Rattle.gs_base.specs.declared.control.IWant.{IWant}
use Rattle.gs_base.specs.declared.mark.Mark.{Mark}
use Rattle.gs_base.specs.declared.mark.Mark.TheVariants.{Seen}
use Rattle.gs_base.specs.declared.names.Millis.{Millis}
use Rattle.gs_base.specs.declared.names.MsgId.{MsgId}
use Rattle.gs_base.specs.declared.names.PeerNo.{PeerNo}
use Rattle.gs_base.specs.declared.names.Topic.{Topic}
use Rattle.gs_base.specs.declared.rpc.Message.{Message}
use Rattle.gs_base.specs.Names.{topic_or_empty}
use Rattle.gs_rules.specs.declared.event.Event.{Event}
use Rattle.gs_rules.specs.declared.event.Event.TheVariants.{Heard, Late, BeatBegin, Part}
use Rattle.gs_rules.specs.declared.event.RpcPart.TheVariants.{Want, GraftIn}
use Rattle.gs_rules.specs.declared.fallen.Fallen.TheVariants as fallen
use Rattle.gs_rules.specs.declared.fallen.NoAnswer.{NoAnswer}
use Rattle.gs_rules.specs.declared.fallen.NoAnswer.TheVariants.{Ignored}
use Rattle.gs_rules.specs.declared.outcome.GraftAnswer.{GraftAnswer}
use Rattle.gs_rules.specs.declared.outcome.GraftAnswer.TheVariants.{PassedOver, Refused, Taken}
use Rattle.gs_rules.specs.declared.trace.Entry.{Entry}
use Rattle.gs_rules.specs.declared.trace.Promise.{Promise}
use Rattle.gs_rules.specs.FellAway.{broken_by, fallen_graft, fallen_request, fell_away, why_no_answer, without_answer, without_answers}
use Rattle.gs_rules.specs.Gossip.{overdue}
use Rattle.gs_rules.specs.MeshRules.{graft_answer}
use Rattle.gs_rules.specs.Peers.{Peer, links_of}
use Rattle.gs_rules.specs.Rules.{answer, ids_in, times_in}
use Rattle.gs_rules.specs.Scoring.{is_graylisted, is_ignored}
use Rattle.gs_rules.specs.Tables.{Entries, after_marks, ended_after, fulfilled_after, made, promises, up}
use Rattle.gs_trace.specs.Lines.{seen}
use Rattle.gs_trace.specs.Lines as lines
use Rattle.gs_trace.specs.Stored.{AreStoredBytes, IfThere, IsStoredEntry, IsStoredEvent, IsStoredId, IsStoredPeer, IsStoredPromise, IsStoredTopic, IsStoredIWant}
use Rattle.gs_trace.proofs.FallenTexts.{IsStoredFallen}
use Rattle.gs_trace.proofs.Rounds.{all_append, all_either, all_filter}

-- ---- promises

all_made : (promise : Option Promise) → IfThere IsStoredPromise promise → AllByRecursion IsStoredPromise (made promise)
all_made None h = tt
all_made (Some promise) h = (h, tt)

all_ended : (event : Event) (at : ℕ) (before : List Promise) → AllByRecursion IsStoredPromise before → AllByRecursion IsStoredPromise (ended_after event at before)
all_ended BeatBegin at before h = all_filter IsStoredPromise _ before h
all_ended event at before h = h

all_fulfilled : (mark : Mark) (before : List Promise) → AllByRecursion IsStoredPromise before → AllByRecursion IsStoredPromise (fulfilled_after mark before)
all_fulfilled (Seen id verdict) before h = all_filter IsStoredPromise _ before h
all_fulfilled mark before h = h

all_marked : (marks : List Mark) (before : List Promise) → AllByRecursion IsStoredPromise before → AllByRecursion IsStoredPromise (after_marks fulfilled_after marks before)
all_marked [] before h = h
all_marked (mark ∷ marks) before h = all_marked marks (fulfilled_after mark before) (all_fulfilled mark before h)

promises_stored : (L : Entries) → AllByRecursion IsStoredEntry L → AllByRecursion IsStoredPromise (promises L)
promises_stored [] h = tt
promises_stored (e ∷ L) h =
    all_append IsStoredPromise (after_marks fulfilled_after e.effects.marks (ended_after e.event e.at.0 (promises L))) (made e.effects.promise)
    (all_marked e.effects.marks (ended_after e.event e.at.0 (promises L)) (all_ended e.event e.at.0 (promises L) (promises_stored L h.1)))
    (all_made e.effects.promise h.0.effects.promise)

all_broken : (ps : List Promise) → AllByRecursion IsStoredPromise ps → AllByRecursion IsStoredFallen (map fallen.Broken ps)
all_broken [] h = tt
all_broken (p ∷ ps) h = (h.0, all_broken ps h.1)

broken_stored : (L : Entries) (at : ℕ) (links : List PeerNo) → AllByRecursion IsStoredEntry L → AllByRecursion IsStoredPromise (flat_map (broken_by L at) links)
broken_stored L at [] h = tt
broken_stored L at (q ∷ links) h =
    all_append IsStoredPromise (broken_by L at q) (flat_map (broken_by L at) links)
    (all_either IsStoredPromise (up L q) (overdue L at q) [] (all_filter IsStoredPromise _ (promises L) (promises_stored L h)) tt)
    (broken_stored L at links h)

-- ---- requests

module _ (q : PeerNo) (sender : IsStoredPeer q) where
  all_ignored : (ids : List MsgId) → AllByRecursion IsStoredId ids → AllByRecursion IsStoredFallen (map (λ id. fallen.Request q id Ignored) ids)
  all_ignored [] h = tt
  all_ignored (id ∷ ids) h = ((sender, h.0), all_ignored ids h.1)

  no_answer_stored : (id : MsgId) (why : NoAnswer) (m : Option Message) → IsStoredId id → AllByRecursion IsStoredFallen (without_answer q id why m)
  no_answer_stored id why None h = ((sender, h), tt)
  no_answer_stored id why (Some m) h = tt

  no_answers_stored : (p : Peer) (L : Entries) (ahead ids : List MsgId) → AllByRecursion IsStoredId ids → AllByRecursion IsStoredFallen (without_answers p L q ahead ids)
  no_answers_stored p L ahead [] h = tt
  no_answers_stored p L ahead (id ∷ ids) h =
      all_append IsStoredFallen (without_answer q id (why_no_answer p L id) (answer p L q id (times_in id ahead))) (without_answers p L q (ahead ++ id ∷ []) ids)
      (no_answer_stored id (why_no_answer p L id) (answer p L q id (times_in id ahead)) h.0)
      (no_answers_stored p L (ahead ++ id ∷ []) ids h.1)

  all_ids : (all : List (List ℕ)) → AllByRecursion AreStoredBytes all → AllByRecursion IsStoredId (map (λ bytes. record { 0 = bytes }) all)
  all_ids [] h = tt
  all_ids (bytes ∷ all) h = (h.0, all_ids all h.1)

  request_stored : (p : Peer) (L : Entries) (at : ℕ) (request : IWant) → IsStoredIWant request → AllByRecursion IsStoredFallen (fallen_request p L at q request)
  request_stored p L at request h =
      let test = λ (bytes : List ℕ). nat_eq (length bytes) 32 in
      let ids : AllByRecursion IsStoredId (ids_in request.ids) = all_ids (filter test request.ids) (all_filter AreStoredBytes test request.ids h.ids) in
      all_either IsStoredFallen (is_ignored p L at q) (map (λ id. fallen.Request q id Ignored) (ids_in request.ids)) (without_answers p L q [] (ids_in request.ids))
      (all_ignored (ids_in request.ids) ids) (no_answers_stored p L [] (ids_in request.ids) ids)

  -- ---- GRAFTs

  topic_stored : (topic : Option Topic) → IfThere IsStoredTopic topic → IsStoredTopic (topic_or_empty topic)
  topic_stored None h = tt
  topic_stored (Some t) h = h

  graft_stored : (t : Topic) (answer : GraftAnswer) → IsStoredTopic t → AllByRecursion IsStoredFallen (fallen_graft q t answer)
  graft_stored t PassedOver h = tt
  graft_stored t (Refused why) h = ((sender, h), tt)
  graft_stored t Taken h = tt

-- ---- all events

fallen_stored : (p : Peer) (L : Entries) (at : Millis) (event : Event) → AllByRecursion IsStoredEntry L → IsStoredEvent event → AllByRecursion IsStoredFallen (fell_away p L at event)
fallen_stored p L at (Heard q rpc) hl h = all_either IsStoredFallen (is_graylisted p L at.0 q) (fallen.Graylisted q ∷ []) [] (h.0, tt) tt
fallen_stored p L at (Late q rpc) hl h = (h.0, tt)
fallen_stored p L at (Part q (Want request)) hl h = request_stored q h.0 p L at.0 request h.1
fallen_stored p L at (Part q (GraftIn graft)) hl h =
    graft_stored q h.0 (topic_or_empty graft.topic) (graft_answer p L at.0 q (topic_or_empty graft.topic)) (topic_stored q h.0 graft.topic h.1.topic)
fallen_stored p L at (Part q part) hl h = tt
fallen_stored p L at BeatBegin hl h = all_broken _ (broken_stored L at.0 (links_of p) hl)
fallen_stored p L at event hl h = tt

-- an entry, and what came to nothing at it
abbrev pub IsStoredSeen : lines.Seen → Type 0
IsStoredSeen x = IsStoredEntry x.0 × AllByRecursion IsStoredFallen x.1

pub seen_stored : (p : Peer) (L : Entries) (es : List Entry) → AllByRecursion IsStoredEntry L → AllByRecursion IsStoredEntry es → AllByRecursion IsStoredSeen (seen p L es)
seen_stored p L [] hl h = tt
seen_stored p L (e ∷ es) hl h = ((h.0, fallen_stored p L e.at e.event hl h.0.event), seen_stored p (e ∷ L) es (h.0, hl) h.1)
