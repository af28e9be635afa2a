-- What happens to a message that a neighbour passes on, and the effects of that.
use Rattle.std.specs.Prelude.{ℕ, ◌-◌, Bool, false, not, ◌&&◌, nat_eq, nat_le, if◌then◌else◌, List, [], ◌∷◌, ◌++◌, Option, Some, None}
use Rattle.std.specs.List.{list_any, starts_with}
use Rattle.std.specs.Map.{lookup}
use Rattle.gs_base.specs.declared.names.PeerNo.{PeerNo}
use Rattle.gs_base.specs.declared.names.Topic.{Topic}
use Rattle.gs_base.specs.declared.names.Millis.{Millis}
use Rattle.gs_base.specs.declared.names.MsgId.{MsgId}
use Rattle.gs_base.specs.declared.rpc.Message.{Message}
use Rattle.gs_base.specs.Names.{same_topic, topic_of, payload_of, message_id, is_signed}
use Rattle.gs_base.specs.Rpcs.{passed_on}
use Rattle.gs_base.specs.declared.verdict.Verdict.{Verdict}
use Rattle.gs_base.specs.declared.verdict.Verdict.TheVariants.{Accept, Reject, Ignore}
use Rattle.gs_base.specs.declared.mark.Mark.{Mark}
use Rattle.gs_base.specs.declared.mark.Mark.TheVariants as marks
use Rattle.gs_params.specs.declared.topic_params.TopicParams.{TopicParams}
use Rattle.gs_mesh.specs.Peers.{is_among}
use Rattle.gs_mesh.specs.Peers.{without as all_but}
use Rattle.gs_score.specs.Accounts.{rules_of}
use Rattle.gs_rules.specs.declared.outcome.Outcome.{Outcome}
use Rattle.gs_rules.specs.declared.outcome.Outcome.TheVariants.{Dropped, Invalid, Rejected, Ignored, Near, Accepted}
use Rattle.gs_rules.specs.declared.trace.Effects.{Effects}
use Rattle.gs_rules.specs.Peers.{Peer, seen_ttl}
use Rattle.gs_rules.specs.Tables.{Entries, Sighting, joined, last_seen, seen}
use Rattle.gs_rules.specs.Meshes.{mesh, noted}
use Rattle.gs_rules.specs.Rule.{no_effects, explicit_listeners, to_each, together_with}

abbrev pub begins_with_one : List (List ℕ) → List ℕ → Bool
begins_with_one prefixes payload = list_any (λ prefix. starts_with nat_eq payload prefix) prefixes

-- What a payload is found to be by the parameters of its topic (gossipsub v1.1, "Extended Validators"): rejecting goes
-- before ignoring, and without parameters it is accepted.
abbrev pub verdict_by : Option TopicParams → List ℕ → Verdict
verdict_by None payload = Accept
verdict_by (Some params) payload =
    if begins_with_one params.reject payload then Reject
    else if begins_with_one params.ignore payload then Ignore
    else Accept

-- the first parameters of a topic count
abbrev pub verdict_on : List (Topic × TopicParams) → Message → Verdict
verdict_on topics m = verdict_by (lookup (same_topic (topic_of m)) topics) (payload_of m)

-- a sighting is at most this many milliseconds old
abbrev pub is_soon : ℕ → ℕ → Option Sighting → Bool
is_soon window at None = false
is_soon window at (Some s) = nat_le (at - s.at) window

-- for how long after the first delivery of a message another one counts
abbrev pub near_window : Peer → Topic → ℕ
near_window p t = (rules_of p.params t).timing.p3_window_ms

-- a member of the topic's mesh passes on what was seen a moment ago, and did not do so before (gossipsub v1.1, Peer
-- Scoring, P3)
abbrev pub is_near : Peer → Entries → ℕ → PeerNo → Topic → MsgId → Bool
is_near p L at q t id =
    is_among (mesh L t) q && (is_soon (near_window p t) at (last_seen L id) && not (noted L id q))

-- ---- what becomes of a message

-- one that was accepted lately comes again
abbrev pub again : MsgId → Bool → Outcome
again id is_near = if is_near then Near id else Dropped

-- one that was not seen lately, by what it is found to be
abbrev pub found_to_be : MsgId → Verdict → Outcome
found_to_be id Accept = Accepted id
found_to_be id Reject = Rejected id
found_to_be id Ignore = Ignored id

-- by what a message was found to be lately: one that was rejected counts against each that passes it on
abbrev pub known_or_new : Peer → Entries → ℕ → PeerNo → Message → MsgId → Option Verdict → Outcome
known_or_new p L at q m id (Some Accept) = again id (is_near p L at q (topic_of m) id)
known_or_new p L at q m id (Some Reject) = Invalid
known_or_new p L at q m id (Some Ignore) = Dropped
known_or_new p L at q m id None = found_to_be id (verdict_on p.params.topics m)

-- A message that came is dropped where the peer isn't subscribed. One that is signed is invalid, and not marked as
-- seen. Any other is marked as seen, if it was not lately, and delivered, kept and passed on, if it is accepted.
abbrev pub outcome : Peer → Entries → ℕ → PeerNo → Message → Outcome
outcome p L at q m =
    if not (joined L (topic_of m)) then Dropped
    else if is_signed m then Invalid
    else known_or_new p L at q m (message_id (payload_of m)) (seen (seen_ttl p) L (message_id (payload_of m)) at)

-- ---- the effects of that

-- the first delivery of a mesh member counts for it, too
abbrev pub near_of : Bool → PeerNo → Topic → MsgId → List Mark
near_of is_member q t id = if is_member then marks.Near q t id ∷ [] else []

-- The effects of a message with this outcome. The first list is the mesh of its topic, and the second the explicit
-- neighbours on it. What is accepted goes to both, but not to the neighbour that it came from (gossipsub v1.0, "Message
-- Processing"; v1.1, "Explicit Peering Agreements").
abbrev pub message_effects : List PeerNo → List PeerNo → PeerNo → Message → Outcome → Effects
message_effects members explicit q m Dropped = no_effects
message_effects members explicit q m Invalid = record no_effects { marks = marks.Invalid q (topic_of m) ∷ [] }
message_effects members explicit q m (Rejected id) = record no_effects {
  marks = marks.Seen id Reject ∷ marks.Invalid q (topic_of m) ∷ [];
}
message_effects members explicit q m (Ignored id) = record no_effects { marks = marks.Seen id Ignore ∷ [] }
message_effects members explicit q m (Near id) = record no_effects { marks = marks.Near q (topic_of m) id ∷ [] }
message_effects members explicit q m (Accepted id) = record no_effects {
  sends = to_each (passed_on m) (all_but q (together_with explicit members));
  delivered = (topic_of m, payload_of m) ∷ [];
  marks = marks.Seen id Accept
      ∷ marks.First q (topic_of m) id
      ∷ (near_of (is_among members q) q (topic_of m) id ++ marks.Cached id (topic_of m) ∷ []);
}

abbrev pub message_rule : Peer → Entries → Millis → PeerNo → Message → Effects
message_rule p L at q m =
    message_effects (mesh L (topic_of m)) (explicit_listeners p L (topic_of m)) q m (outcome p L at.0 q m)
