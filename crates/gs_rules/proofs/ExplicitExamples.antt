-- Worked rows of explicit neighbours: the first of three neighbours is one, or is not, and the application gives it a score.
use Rattle.std.proofs.Common.{◌≡◌, ℕ, ℤ, pos, Bool, true, false, [], ◌∷◌, Some, refl}
use Rattle.std.specs.Prelude.{neg_ℤ}
use Rattle.gs_base.specs.declared.names.PeerNo.{PeerNo}
use Rattle.gs_base.specs.declared.names.Topic.{Topic}
use Rattle.gs_base.specs.declared.names.Millis.{Millis}
use Rattle.gs_base.specs.declared.names.MsgId.{MsgId}
use Rattle.gs_base.specs.declared.neighbour.Neighbour.{Neighbour}
use Rattle.gs_base.specs.declared.rpc.Message.{Message}
use Rattle.gs_base.specs.declared.mark.Mark.TheVariants.{Backoff, Cached, Fanned, Grafted, Published, Seen}
use Rattle.gs_base.specs.declared.verdict.Verdict.TheVariants.{Accept}
use Rattle.gs_base.specs.Names.{message_id}
use Rattle.gs_base.specs.Neighbours.{accepted_neighbour}
use Rattle.gs_base.specs.Rpcs.{passed_on, publication, pruning}
use Rattle.gs_params.specs.Params.{default_degrees, default_factors, default_thresholds, default_timing}
use Rattle.gs_score.specs.Formula.{score_of, topic_part}
use Rattle.gs_score.specs.Millionths.{times}
use Rattle.gs_rules.specs.declared.event.Event.{Event}
use Rattle.gs_rules.specs.declared.event.Event.TheVariants.{Part, Step, Own, Lost}
use Rattle.gs_rules.specs.declared.event.RpcPart.TheVariants.{Sub}
use Rattle.gs_rules.specs.declared.event.BeatStep.TheVariants.{BeatEnd}
use Rattle.gs_plan.specs.declared.plan.Act.TheVariants.{Subscribe}
use Rattle.gs_rules.specs.declared.event.Loss.TheVariants.{Gone}
use Rattle.gs_rules.specs.declared.trace.Effects.{Effects}
use Rattle.gs_rules.specs.declared.outcome.FanoutUse.TheVariants.{Filled}
use Rattle.gs_rules.specs.declared.trace.Entry.{Entry}
use Rattle.gs_rules.specs.declared.outcome.Outcome.TheVariants.{Accepted}
use Rattle.gs_rules.specs.Peers.{Peer}
use Rattle.gs_rules.specs.Tables.{Entries, blank}
use Rattle.gs_rules.specs.Scoring.{is_graylisted, is_ignored, score}
use Rattle.gs_rules.specs.Membership.{candidates}
use Rattle.gs_rules.specs.BeatRules.{fan_beat_rule, refanning}
use Rattle.gs_rules.specs.MeshRules.{graft_rule, publish_rule, publishing}
use Rattle.gs_rules.specs.Outcomes.{message_effects, message_rule}
use Rattle.gs_rules.specs.Rules.{AnyOf, Gives, explicit_listeners, gossip_candidates, together_with, no_effects}

abbrev peer_of : ℕ → PeerNo
peer_of n = record { 0 = n }

abbrev news : Topic
news = record { 0 = 110 ∷ [] }

abbrev linked : ℕ → ℤ → Bool → Neighbour
linked n app explicit = record (accepted_neighbour (peer_of n) (n ∷ [])) { app = app; explicit = explicit }

abbrev peer_with : ℤ → Bool → Bool → Peer
peer_with app explicit floods = record {
  params = record {
    degrees = default_degrees;
    thresholds = default_thresholds;
    factors = default_factors;
    timing = default_timing;
    flood_publish = floods;
    topics = [];
  };
  neighbours = linked 1 app explicit ∷ linked 2 (pos 0) false ∷ linked 3 (pos 0) false ∷ [];
}

-- below all thresholds
abbrev low : ℤ
low = neg_ℤ (pos 900_000_000)

abbrev agreed : Peer
agreed = peer_with (pos 0) true false

abbrev agreed_and_low : Peer
agreed_and_low = peer_with low true false

abbrev at : ℕ → Millis
at n = record { 0 = n }

abbrev entry : Event → Entry
entry event = record { at = at 0; event = event; effects = no_effects }

abbrev on_news : ℕ → Entry
on_news n = entry (Part (peer_of n) (Sub (record { subscribe = Some true; topic = Some news })))

abbrev listening : Entries
listening = on_news 1 ∷ on_news 2 ∷ on_news 3 ∷ []

-- the peer is subscribed, and has the second neighbour in its mesh
abbrev subscribed : Entries
subscribed = record (entry (Step BeatEnd)) { effects = record no_effects { marks = Grafted (peer_of 2) news ∷ [] } } ∷ entry (Own (Subscribe news)) ∷ listening

-- ---- standing

a_low_neighbour_is_graylisted : is_graylisted (peer_with low false false) [] 0 (peer_of 1) ≡ true
unfolding score score_of topic_part times
a_low_neighbour_is_graylisted = refl

an_explicit_one_is_not : is_graylisted agreed_and_low [] 0 (peer_of 1) ≡ false
unfolding score score_of topic_part times
an_explicit_one_is_not = refl

but_its_offers_and_requests_count_for_nothing : is_ignored agreed_and_low [] 0 (peer_of 1) ≡ true
unfolding score score_of topic_part times
but_its_offers_and_requests_count_for_nothing = refl

-- ---- meshes

an_explicit_neighbour_is_no_candidate : candidates agreed listening 0 news ≡ peer_of 2 ∷ peer_of 3 ∷ []
unfolding score score_of topic_part times
an_explicit_neighbour_is_no_candidate = refl

abbrev refused : Effects
refused = record no_effects {
  sends = (peer_of 1, pruning news 60) ∷ [];
  marks = Backoff (peer_of 1) news (at 62_000) ∷ [];
}

its_graft_is_refused : graft_rule agreed subscribed (at 2_000) (peer_of 1) news ≡ refused
its_graft_is_refused = refl

-- the neighbour is in backoff, and is not charged
and_not_charged_where_it_comes_too_soon
    : graft_rule agreed (record (entry (Step BeatEnd)) { effects = record no_effects { marks = Backoff (peer_of 1) news (at 2_001) ∷ [] } } ∷ subscribed) (at 2_000) (peer_of 1) news ≡ refused
and_not_charged_where_it_comes_too_soon = refl

-- ---- messages

each_stands_at_its_place_and_once : together_with (peer_of 1 ∷ peer_of 3 ∷ []) (peer_of 2 ∷ peer_of 3 ∷ []) ≡ peer_of 1 ∷ peer_of 2 ∷ peer_of 3 ∷ []
each_stands_at_its_place_and_once = refl

abbrev id : MsgId
id = record { 0 = 1 ∷ [] }

-- the third passed it on, and is in the mesh; the first is explicit
a_message_goes_to_the_mesh_and_to_the_explicit_neighbour
    : (message_effects (peer_of 2 ∷ peer_of 3 ∷ []) (peer_of 1 ∷ []) (peer_of 3) blank (Accepted id)).sends
    ≡ (peer_of 1, passed_on blank) ∷ (peer_of 2, passed_on blank) ∷ []
a_message_goes_to_the_mesh_and_to_the_explicit_neighbour = refl

and_not_back_to_an_explicit_neighbour_that_passed_it_on
    : (message_effects (peer_of 2 ∷ []) (peer_of 1 ∷ []) (peer_of 1) blank (Accepted id)).sends
    ≡ (peer_of 2, passed_on blank) ∷ []
and_not_back_to_an_explicit_neighbour_that_passed_it_on = refl

-- it is on the topic of the message, and up
an_explicit_listener_is_one_of_the_topic : explicit_listeners agreed listening news ≡ peer_of 1 ∷ []
an_explicit_listener_is_one_of_the_topic = refl

one_that_never_subscribed_is_none : explicit_listeners agreed (on_news 2 ∷ on_news 3 ∷ []) news ≡ []
one_that_never_subscribed_is_none = refl

nor_is_one_that_is_gone : explicit_listeners agreed (entry (Lost (peer_of 1) Gone) ∷ listening) news ≡ []
nor_is_one_that_is_gone = refl

abbrev told : Message
told = record blank { topic = Some news; payload = Some (5 ∷ []) }

a_message_is_forwarded_on_its_own_topic
    : (message_rule agreed subscribed (at 0) (peer_of 3) told).sends
    ≡ (peer_of 1, passed_on told) ∷ (peer_of 2, passed_on told) ∷ []
a_message_is_forwarded_on_its_own_topic = refl

-- ---- publishing

what_is_published_goes_to_the_mesh_and_to_the_explicit_neighbour
    : publish_rule agreed_and_low subscribed (at 2_000) news (5 ∷ [])
    ≡ Gives (record no_effects {
      sends = (peer_of 1, publication news (5 ∷ [])) ∷ (peer_of 2, publication news (5 ∷ [])) ∷ [];
      delivered = (news, 5 ∷ []) ∷ [];
      marks = Seen (message_id (5 ∷ [])) Accept ∷ Cached (message_id (5 ∷ [])) news ∷ [];
    })
unfolding score score_of topic_part times
what_is_published_goes_to_the_mesh_and_to_the_explicit_neighbour = refl

by_flood_publishing_it_goes_to_all
    : publish_rule (peer_with low true true) subscribed (at 2_000) news (5 ∷ [])
    ≡ Gives (record no_effects {
      sends = (peer_of 1, publication news (5 ∷ [])) ∷ (peer_of 2, publication news (5 ∷ [])) ∷ (peer_of 3, publication news (5 ∷ [])) ∷ [];
      delivered = (news, 5 ∷ []) ∷ [];
      marks = Seen (message_id (5 ∷ [])) Accept ∷ Cached (message_id (5 ∷ [])) news ∷ [];
    })
unfolding score score_of topic_part times
by_flood_publishing_it_goes_to_all = refl

-- six of the two others: the explicit neighbour is not counted
a_fanout_is_filled_from_the_others
    : publish_rule agreed listening (at 2_000) news (5 ∷ [])
    ≡ AnyOf 6 (peer_of 2 ∷ peer_of 3 ∷ []) (λ chosen. Gives (publishing agreed listening news (5 ∷ []) chosen Filled))
unfolding score score_of topic_part times
a_fanout_is_filled_from_the_others = refl

-- the second neighbour is in the fanout
abbrev fanned : Entries
fanned = record (entry (Step BeatEnd)) { effects = record no_effects { marks = Fanned (peer_of 2) news ∷ Published news ∷ [] } } ∷ listening

a_fanout_that_has_members_is_kept_and_the_explicit_neighbour_gets_it_too
    : publish_rule agreed_and_low fanned (at 2_000) news (5 ∷ [])
    ≡ Gives (record no_effects {
      sends = (peer_of 1, publication news (5 ∷ [])) ∷ (peer_of 2, publication news (5 ∷ [])) ∷ [];
      marks = Seen (message_id (5 ∷ [])) Accept ∷ Cached (message_id (5 ∷ [])) news ∷ Published news ∷ [];
    })
unfolding score score_of topic_part times
a_fanout_that_has_members_is_kept_and_the_explicit_neighbour_gets_it_too = refl

-- five more of those outside it
a_heartbeat_fills_a_fanout_from_the_others
    : fan_beat_rule agreed fanned (at 2_000) news
    ≡ AnyOf 5 (peer_of 3 ∷ []) (λ chosen. Gives (refanning agreed fanned (at 2_000) news chosen))
unfolding score score_of topic_part times
a_heartbeat_fills_a_fanout_from_the_others = refl

-- ---- gossip

an_explicit_neighbour_gets_no_gossip : gossip_candidates agreed listening 0 news ≡ peer_of 2 ∷ peer_of 3 ∷ []
unfolding score score_of topic_part times
an_explicit_neighbour_gets_no_gossip = refl
