-- What may become of a message that came, and of a request.
use Rattle.std.proofs.Common.{◌≡◌, Bool, true, false, if◌then◌else◌, [], Option, Some, None, refl}
use Rattle.std.specs.Prelude.{not}
use Rattle.gs_base.specs.declared.names.PeerNo.{PeerNo}
use Rattle.gs_base.specs.declared.names.Millis.{Millis}
use Rattle.gs_base.specs.declared.rpc.Message.{Message}
use Rattle.gs_base.specs.declared.control.IWant.{IWant}
use Rattle.gs_base.specs.declared.verdict.Verdict.{Verdict}
use Rattle.gs_base.specs.declared.verdict.Verdict.TheVariants.{Accept, Reject, Ignore}
use Rattle.gs_base.specs.Names.{is_signed, message_id, payload_of, topic_of}
use Rattle.gs_rules.specs.declared.trace.Effects.{Effects}
use Rattle.gs_rules.specs.Peers.{Peer, seen_ttl}
use Rattle.gs_rules.specs.Tables.{Entries, joined, seen}
use Rattle.gs_rules.specs.Scoring.{is_ignored}
use Rattle.gs_rules.specs.declared.outcome.Outcome.{Outcome}
use Rattle.gs_rules.specs.declared.outcome.Outcome.TheVariants.{Dropped, Invalid, Near}
use Rattle.gs_rules.specs.Meshes.{mesh}
use Rattle.gs_rules.specs.Outcomes.{again, found_to_be, is_near, known_or_new, message_effects, message_rule, verdict_on}
use Rattle.gs_rules.specs.Rules.{answering, answers, explicit_listeners, ids_in, want_rule, no_effects}

-- what holds of the bare entry, and on a topic that is joined of an invalid message, of one that counts for its sender
-- and of a new one, whatever it is found to be, holds of its rule
pub of_a_joined_message : (P : Effects → Type 0) (p : Peer) (L : Entries) (at : Millis) (q : PeerNo) (m : Message)
    → P no_effects
    → (joined L (topic_of m) ≡ true → P (message_effects (mesh L (topic_of m)) (explicit_listeners p L (topic_of m)) q m Invalid))
    → (joined L (topic_of m) ≡ true → P (message_effects (mesh L (topic_of m)) (explicit_listeners p L (topic_of m)) q m (Near (message_id (payload_of m)))))
    → (joined L (topic_of m) ≡ true → seen (seen_ttl p) L (message_id (payload_of m)) at.0 ≡ None → (v : Verdict) → P (message_effects (mesh L (topic_of m)) (explicit_listeners p L (topic_of m)) q m (found_to_be (message_id (payload_of m)) v)))
    → P (message_rule p L at q m)
of_a_joined_message P p L at q m dropped against near new = by (joined L (topic_of m)) (is_signed m) (seen (seen_ttl p) L (message_id (payload_of m)) at.0) refl refl
  where
    Holds : Outcome → Type 0
    Holds found = P (message_effects (mesh L (topic_of m)) (explicit_listeners p L (topic_of m)) q m found)

    repeated : joined L (topic_of m) ≡ true → (is_near : Bool) → Holds (again (message_id (payload_of m)) is_near)
    repeated on true = near on
    repeated on false = dropped

    by : (joins signed : Bool) (found : Option Verdict) → joined L (topic_of m) ≡ joins → seen (seen_ttl p) L (message_id (payload_of m)) at.0 ≡ found
        → Holds (if not joins then Dropped else if signed then Invalid else known_or_new p L at.0 q m (message_id (payload_of m)) found)
    by false signed found on is = dropped
    by true true found on is = against on
    by true false (Some Reject) on is = against on
    by true false (Some Accept) on is = repeated on (is_near p L at.0 q (topic_of m) (message_id (payload_of m)))
    by true false (Some Ignore) on is = dropped
    by true false None on is = new on is (verdict_on p.params.topics m)

-- what holds of each of these, whatever is joined
pub of_a_message : (P : Effects → Type 0) (p : Peer) (L : Entries) (at : Millis) (q : PeerNo) (m : Message)
    → P no_effects
    → P (message_effects (mesh L (topic_of m)) (explicit_listeners p L (topic_of m)) q m Invalid)
    → P (message_effects (mesh L (topic_of m)) (explicit_listeners p L (topic_of m)) q m (Near (message_id (payload_of m))))
    → (seen (seen_ttl p) L (message_id (payload_of m)) at.0 ≡ None → (v : Verdict) → P (message_effects (mesh L (topic_of m)) (explicit_listeners p L (topic_of m)) q m (found_to_be (message_id (payload_of m)) v)))
    → P (message_rule p L at q m)
of_a_message P p L at q m dropped against near new =
    of_a_joined_message P p L at q m dropped (λ on. against) (λ on. near) (λ on. new)

-- what holds of the bare entry and of the answers holds of the rule of a request
pub of_a_request : (P : Effects → Type 0) (p : Peer) (L : Entries) (at : Millis) (q : PeerNo) (request : IWant)
    → P no_effects
    → P (answering q (answers p L q [] (ids_in request.ids)))
    → P (want_rule p L at q request)
of_a_request P p L at q request dropped answered = by (is_ignored p L at.0 q)
  where
    by : (ignored : Bool) → P (if ignored then no_effects else answering q (answers p L q [] (ids_in request.ids)))
    by true = dropped
    by false = answered
