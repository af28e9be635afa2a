-- What is counted of a message whose entry follows the rule is what the rule makes of it.
use Rattle.std.proofs.Common.{◌≡◌, ℕ, ◌-◌, Bool, true, false, not, nat_lt, if◌then◌else◌, Option, Some, None, refl}
use Rattle.std.specs.Prelude.{unwrap_or}
use Rattle.gs_base.specs.declared.names.Millis.{Millis}
use Rattle.gs_base.specs.declared.names.MsgId.{MsgId}
use Rattle.gs_base.specs.declared.names.PeerNo.{PeerNo}
use Rattle.gs_base.specs.declared.rpc.Message.{Message}
use Rattle.gs_base.specs.declared.verdict.Verdict.{Verdict}
use Rattle.gs_base.specs.declared.verdict.Verdict.TheVariants.{Accept, Reject, Ignore}
use Rattle.gs_base.specs.Names.{is_signed, message_id, payload_of, topic_of}
use Rattle.gs_rules.specs.declared.outcome.Outcome.{Outcome}
use Rattle.gs_rules.specs.declared.outcome.Outcome.TheVariants.{Dropped, Invalid}
use Rattle.gs_rules.specs.Meshes.{mesh}
use Rattle.gs_rules.specs.Outcomes.{again, found_to_be, is_near, known_or_new, message_effects, message_rule, verdict_on}
use Rattle.gs_rules.specs.Peers.{Peer, seen_ttl}
use Rattle.gs_rules.specs.Rule.{explicit_listeners}
use Rattle.gs_rules.specs.Tables.{Entries, Sighting, counting, joined, last_seen}
use Rattle.gs_counts.specs.declared.fate.Fate.{Fate}
use Rattle.gs_counts.specs.declared.fate.Fate.TheVariants as fates
use Rattle.gs_counts.specs.Fates.{fate_after, fate_by, first_fate, ignored_so, ruled_fate, shown}
use Rattle.gs_counts.specs.Fates.{again as comes_again}

module _ (p : Peer) (L : Entries) (at : Millis) (q : PeerNo) (m : Message) where
  abbrev id : MsgId
  id = message_id (payload_of m)

  -- what is shown of an outcome, after a sighting or none
  abbrev told : Outcome → Option Sighting → Fate
  told outcome s =
      unwrap_or (shown (message_effects (mesh L (topic_of m)) (explicit_listeners p L (topic_of m)) q m outcome).marks) (comes_again (ignored_so s))

  new_one : (v : Verdict) (s : Option Sighting) → told (found_to_be id v) s ≡ first_fate v
  new_one Accept s = refl
  new_one Reject s = refl
  new_one Ignore s = refl

  accepted : (near : Bool) (seen_at : ℕ) → told (again id near) (Some (record { at = seen_at; verdict = Accept })) ≡ fates.Duplicate
  accepted true seen_at = refl
  accepted false seen_at = refl

  lately : (seen_at : ℕ) (v : Verdict) (counts : Bool) → told (known_or_new p L at.0 q m id (if counts then Some v else None)) (Some (record { at = seen_at; verdict = v })) ≡ fate_by (if counts then Some v else None) (verdict_on p.params.topics m)
  lately seen_at Accept true = accepted (is_near p L at.0 q (topic_of m) id) seen_at
  lately seen_at Reject true = refl
  lately seen_at Ignore true = refl
  lately seen_at v false = new_one (verdict_on p.params.topics m) (Some (record { at = seen_at; verdict = v }))

  sighted : (s : Option Sighting) → told (known_or_new p L at.0 q m id (counting (seen_ttl p) at.0 s)) s ≡ fate_by (counting (seen_ttl p) at.0 s) (verdict_on p.params.topics m)
  sighted None = new_one (verdict_on p.params.topics m) None
  sighted (Some s) = lately s.at s.verdict (nat_lt (at.0 - s.at) (seen_ttl p))

  by_cases : (is_joined signed : Bool) (s : Option Sighting)
      → (if not is_joined then fates.OffTopic else if signed then fates.Signed else told (if not is_joined then Dropped else if signed then Invalid else known_or_new p L at.0 q m id (counting (seen_ttl p) at.0 s)) s)
      ≡ (if not is_joined then fates.OffTopic else if signed then fates.Signed else fate_by (counting (seen_ttl p) at.0 s) (verdict_on p.params.topics m))
  by_cases false signed s = refl
  by_cases true true s = refl
  by_cases true false s = sighted s

  pub by_the_rule : fate_after L m (message_rule p L at q m).marks ≡ ruled_fate p L at.0 m
  by_the_rule = by_cases (joined L (topic_of m)) (is_signed m) (last_seen L id)
