-- Worked rows of scores, as gossipsub's formula gives them by hand, and of what a low score costs.
use Rattle.std.proofs.Common.{◌≡◌, ℕ, ℤ, pos, true, false, List, [], ◌∷◌, None, Some, refl}
use Rattle.std.specs.Prelude.{neg_ℤ}
use Rattle.gs_base.specs.declared.names.PeerNo.{PeerNo}
use Rattle.gs_base.specs.declared.names.Topic.{Topic}
use Rattle.gs_base.specs.declared.names.MsgId.{MsgId}
use Rattle.gs_base.specs.declared.neighbour.Neighbour.{Neighbour}
use Rattle.gs_base.specs.declared.control.IHave.{IHave}
use Rattle.gs_base.specs.declared.control.IWant.{IWant}
use Rattle.gs_base.specs.declared.rpc.Rpc.{Rpc}
use Rattle.gs_base.specs.declared.rpc.SubOpt.{SubOpt}
use Rattle.gs_base.specs.declared.verdict.Verdict.TheVariants.{Accept}
use Rattle.gs_base.specs.declared.mark.Mark.{Mark}
use Rattle.gs_base.specs.declared.mark.Mark.TheVariants.{Seen, First, Invalid, Misbehaviour, Cached, Answered, Offered}
use Rattle.gs_params.specs.Params.{default_degrees, default_factors, default_thresholds, default_timing, default_topic_factors, default_topic_params}
use Rattle.gs_score.specs.Histories.{Marked, Decayed, ShutOut}
use Rattle.gs_score.specs.Formula.{score_of, topic_part}
use Rattle.gs_score.specs.Millionths.{times}
use Rattle.gs_base.specs.Rpcs.{passed_on}
use Rattle.gs_rules.specs.declared.event.Event.{Event}
use Rattle.gs_rules.specs.declared.event.Event.TheVariants.{Heard, BeatBegin, Decay, Shut, Part, Own, Lost}
use Rattle.gs_rules.specs.declared.event.RpcPart.TheVariants.{Sub, Msg}
use Rattle.gs_plan.specs.declared.plan.Act.TheVariants.{Subscribe, HangUp}
use Rattle.gs_rules.specs.declared.event.Loss.TheVariants.{Gone, Fault}
use Rattle.gs_rules.specs.declared.outcome.FanoutUse.TheVariants.{Unused}
use Rattle.gs_rules.specs.declared.trace.Entry.{Entry}
use Rattle.gs_rules.specs.Peers.{Peer}
use Rattle.gs_rules.specs.Tables.{Entries, blank}
use Rattle.gs_rules.specs.Scoring.{history, is_graylisted, is_ignored, is_passed_over, score}
use Rattle.gs_rules.specs.Owed.{nothing, owed}
use Rattle.gs_rules.specs.MeshRules.{publish_rule, publishing}
use Rattle.gs_base.specs.Neighbours.{accepted_neighbour}
use Rattle.gs_rules.specs.Rules.{Gives, gossip_candidates, have_rule, want_rule, no_effects}

-- ---- what is given

abbrev q : PeerNo
q = record { 0 = 1 }

abbrev other : PeerNo
other = record { 0 = 2 }

abbrev third : PeerNo
third = record { 0 = 3 }

abbrev stranger : PeerNo
stranger = record { 0 = 9 }

abbrev news : Topic
news = record { 0 = 110 ∷ [] }

-- a topic without parameters of its own
abbrev plain : Topic
plain = record { 0 = 112 ∷ [] }

-- three neighbours, each at an address of its own, and the application gives the third two and a half
abbrev linked : PeerNo → List ℕ → ℤ → Neighbour
linked r address app = record (accepted_neighbour r address) { outbound = true; app = app }

abbrev around : List Neighbour
around = linked q (7 ∷ []) (pos 0) ∷ linked other (8 ∷ []) (pos 0) ∷ linked third (9 ∷ []) (pos 2_500_000) ∷ []

-- on the topic of news the topic counts half, a first delivery one, and the square of invalid messages ten against
abbrev among : List Neighbour → Peer
among neighbours = record {
  params = record {
    degrees = default_degrees;
    thresholds = default_thresholds;
    factors = default_factors;
    timing = default_timing;
    flood_publish = true;
    topics = (news, record default_topic_params { factors = record default_topic_factors { topic_weight = pos 500_000; w2 = pos 1_000_000; w4 = neg_ℤ (pos 10_000_000) } }) ∷ [];
  };
  neighbours = neighbours;
}

abbrev peer : Peer
peer = among around

abbrev id : ℕ → MsgId
id n = record { 0 = n ∷ [] }

abbrev entry : Event → Entry
entry event = record { at = record { 0 = 0 }; event = event; effects = no_effects }

abbrev marked : PeerNo → Mark → Entry
marked r mark = record (entry (Part r (Msg blank))) { effects = record no_effects { marks = mark ∷ [] } }

abbrev first_on : Topic → PeerNo → Entry
first_on t r = marked r (First r t (id 1))

abbrev invalid_on : Topic → PeerNo → Entry
invalid_on t r = marked r (Invalid r t)

abbrev blamed : PeerNo → Entry
blamed r = record (entry BeatBegin) { effects = record no_effects { marks = Misbehaviour r ∷ [] } }

-- ---- scores on a topic

nothing_known_is_nothing : score peer [] 0 q ≡ pos 0
unfolding score score_of topic_part times
nothing_known_is_nothing = refl

-- all weights of counters are 0 where nothing else is said
by_default_a_first_delivery_is_nothing : score peer (first_on plain q ∷ []) 0 q ≡ pos 0
unfolding score score_of topic_part times
by_default_a_first_delivery_is_nothing = refl

-- one first delivery under a weight of one, on a topic that counts half
a_first_delivery_gives_half : score peer (first_on news q ∷ []) 0 q ≡ pos 500_000
unfolding score score_of topic_part times
a_first_delivery_gives_half = refl

two_give_one : score peer (first_on news q ∷ first_on news q ∷ []) 0 q ≡ pos 1_000_000
unfolding score score_of topic_part times
two_give_one = refl

-- only the neighbour that a mark names gets it
another_gets_nothing_of_it : score peer (first_on news q ∷ []) 0 other ≡ pos 0
unfolding score score_of topic_part times
another_gets_nothing_of_it = refl

-- one message squared, ten times, and half of that
an_invalid_message_costs_five : score peer (invalid_on news q ∷ []) 0 q ≡ neg_ℤ (pos 5_000_000)
unfolding score score_of topic_part times
an_invalid_message_costs_five = refl

-- two squared are four
two_invalid_messages_cost_twenty : score peer (invalid_on news q ∷ invalid_on news q ∷ []) 0 q ≡ neg_ℤ (pos 20_000_000)
unfolding score score_of topic_part times
two_invalid_messages_cost_twenty = refl

-- minus five and a half
topics_count_what_is_good_and_what_is_bad : score peer (first_on news q ∷ invalid_on news q ∷ []) 0 q ≡ neg_ℤ (pos 4_500_000)
unfolding score score_of topic_part times
topics_count_what_is_good_and_what_is_bad = refl

-- ---- decay

-- a counter of first deliveries halves
a_step_leaves_half : score peer (entry Decay ∷ first_on news q ∷ []) 0 q ≡ pos 250_000
unfolding score score_of topic_part times
a_step_leaves_half = refl

-- one and a half, on a topic that counts half
a_delivery_after_a_step_counts_whole : score peer (first_on news q ∷ entry Decay ∷ first_on news q ∷ []) 0 q ≡ pos 750_000
unfolding score score_of topic_part times
a_delivery_after_a_step_counts_whole = refl

-- half squared is a quarter
a_step_leaves_a_quarter_of_what_an_invalid_message_costs : score peer (entry Decay ∷ invalid_on news q ∷ []) 0 q ≡ neg_ℤ (pos 1_250_000)
unfolding score score_of topic_part times
a_step_leaves_a_quarter_of_what_an_invalid_message_costs = refl

-- a heartbeat is no step
heartbeats_do_not_decay : score peer (entry BeatBegin ∷ first_on news q ∷ []) 0 q ≡ pos 500_000
unfolding score score_of topic_part times
heartbeats_do_not_decay = refl

-- ---- whatever the topic

the_application_gives_its_score : score peer [] 0 third ≡ pos 2_500_000
unfolding score score_of topic_part times
the_application_gives_its_score = refl

-- one squared, ten times
a_broken_promise_costs_ten : score peer (blamed q ∷ []) 0 q ≡ neg_ℤ (pos 10_000_000)
unfolding score score_of topic_part times
a_broken_promise_costs_ten = refl

-- nine tenths squared, ten times
a_broken_promise_decays : score peer (entry Decay ∷ blamed q ∷ []) 0 q ≡ neg_ℤ (pos 8_100_000)
unfolding score score_of topic_part times
a_broken_promise_decays = refl

-- two neighbours where one may be
abbrev together : Peer
together = among (linked q (7 ∷ []) (pos 0) ∷ linked other (7 ∷ []) (pos 0) ∷ linked third (9 ∷ []) (pos 0) ∷ [])

-- one too many squared, five times
neighbours_at_one_address_cost_five : score together [] 0 q ≡ neg_ℤ (pos 5_000_000)
unfolding score score_of topic_part times
neighbours_at_one_address_cost_five = refl

who_is_elsewhere_pays_nothing : score together [] 0 third ≡ pos 0
unfolding score score_of topic_part times
who_is_elsewhere_pays_nothing = refl

-- neighbour 2 closed its link
who_is_gone_counts_no_more : score together (entry (Lost other Gone) ∷ []) 0 q ≡ pos 0
unfolding score score_of topic_part times
who_is_gone_counts_no_more = refl

who_was_hung_up_on_counts_no_more : score together (entry (Own (HangUp other)) ∷ []) 0 q ≡ pos 0
unfolding score score_of topic_part times
who_was_hung_up_on_counts_no_more = refl

who_is_at_fault_counts_no_more : score together (entry (Lost other Fault) ∷ []) 0 q ≡ pos 0
unfolding score score_of topic_part times
who_is_at_fault_counts_no_more = refl

-- ---- histories

-- the newest first, and marks of one entry one by one
a_history_has_the_newest_first : history peer (entry (Lost other Gone) ∷ entry Decay ∷ record (entry (Part q (Msg blank))) { effects = record no_effects { marks = Seen (id 1) Accept ∷ First q news (id 1) ∷ Cached (id 1) news ∷ [] } } ∷ []) ≡ ShutOut other ∷ Decayed ∷ Marked (Cached (id 1) news) ∷ Marked (First q news (id 1)) ∷ Marked (Seen (id 1) Accept) ∷ []
a_history_has_the_newest_first = refl

a_stranger_has_no_counters : history peer (first_on news stranger ∷ []) ≡ []
a_stranger_has_no_counters = refl

a_shut_changes_nothing : history peer (entry Shut ∷ first_on news q ∷ []) ≡ Marked (First q news (id 1)) ∷ []
a_shut_changes_nothing = refl

-- ---- what a low score costs

-- the application gives neighbour 1 n millionths less than nothing
abbrev scored : ℕ → Peer
scored n = among (linked q (7 ∷ []) (neg_ℤ (pos n)) ∷ linked other (8 ∷ []) (pos 0) ∷ [])

-- just at it, and then a millionth below it
who_is_at_the_threshold_is_heard : is_ignored (scored 10_000_000) [] 0 q ≡ false
unfolding score score_of topic_part times
who_is_at_the_threshold_is_heard = refl

who_is_below_it_is_ignored : is_ignored (scored 10_000_001) [] 0 q ≡ true
unfolding score score_of topic_part times
who_is_below_it_is_ignored = refl

who_is_at_the_threshold_gets_what_is_published : is_passed_over (scored 50_000_000) [] 0 q ≡ false
unfolding score score_of topic_part times
who_is_at_the_threshold_gets_what_is_published = refl

who_is_below_it_is_passed_over : is_passed_over (scored 50_000_001) [] 0 q ≡ true
unfolding score score_of topic_part times
who_is_below_it_is_passed_over = refl

who_is_at_the_threshold_is_not_graylisted : is_graylisted (scored 80_000_000) [] 0 q ≡ false
unfolding score score_of topic_part times
who_is_at_the_threshold_is_not_graylisted = refl

who_is_below_it_is_graylisted : is_graylisted (scored 80_000_001) [] 0 q ≡ true
unfolding score score_of topic_part times
who_is_below_it_is_graylisted = refl

-- an identifier of 32 bytes
abbrev long_id : MsgId
long_id = record {
  0 =
      0 ∷ 1 ∷ 2 ∷ 3 ∷ 4 ∷ 5 ∷ 6 ∷ 7 ∷ 8 ∷ 9 ∷ 10 ∷ 11 ∷ 12 ∷ 13 ∷ 14 ∷ 15 ∷
      16 ∷ 17 ∷ 18 ∷ 19 ∷ 20 ∷ 21 ∷ 22 ∷ 23 ∷ 24 ∷ 25 ∷ 26 ∷ 27 ∷ 28 ∷ 29 ∷ 30 ∷ 31 ∷ [];
}

-- both neighbours are on the topic, and the peer keeps a message of it
abbrev on_news : SubOpt
on_news = record { subscribe = Some true; topic = Some news }

abbrev listening : Entries
listening =
    record (entry (Part other (Msg blank))) { effects = record no_effects { marks = Cached long_id news ∷ [] } }
    ∷ entry (Part q (Sub on_news))
    ∷ entry (Part other (Sub on_news))
    ∷ entry (Own (Subscribe news))
    ∷ []

abbrev offer : IHave
offer = record { topic = Some news; ids = [] }

abbrev request : IWant
request = record { ids = long_id.0 ∷ [] }

-- one of another counts
an_offer_of_who_is_ignored_counts_for_nothing : have_rule (scored 10_000_001) listening (record { 0 = 0 }) q offer ≡ Gives no_effects
unfolding score score_of topic_part times
an_offer_of_who_is_ignored_counts_for_nothing = refl

an_offer_of_another_counts : have_rule (scored 10_000_001) listening (record { 0 = 0 }) other offer ≡ Gives (record no_effects { marks = Offered other ∷ [] })
unfolding score score_of topic_part times
an_offer_of_another_counts = refl

a_request_of_who_is_ignored_gets_nothing : want_rule (scored 10_000_001) listening (record { 0 = 0 }) q request ≡ no_effects
unfolding score score_of topic_part times
a_request_of_who_is_ignored_gets_nothing = refl

a_request_of_another_is_answered : want_rule (scored 10_000_001) listening (record { 0 = 0 }) other request ≡ record no_effects { sends = (other, passed_on blank) ∷ []; marks = Answered other long_id ∷ [] }
unfolding score score_of topic_part times
a_request_of_another_is_answered = refl

a_message_is_offered_to_who_is_at_the_threshold : gossip_candidates (scored 10_000_000) listening 0 news ≡ q ∷ other ∷ []
unfolding score score_of topic_part times
a_message_is_offered_to_who_is_at_the_threshold = refl

and_not_to_who_is_ignored : gossip_candidates (scored 10_000_001) listening 0 news ≡ other ∷ []
unfolding score score_of topic_part times
and_not_to_who_is_ignored = refl

-- who is ignored still gets what is published
what_is_published_goes_to_who_is_ignored : publish_rule (scored 50_000_000) listening (record { 0 = 0 }) news (5 ∷ []) ≡ Gives (publishing (scored 50_000_000) listening news (5 ∷ []) (q ∷ other ∷ []) Unused)
unfolding score score_of topic_part times
what_is_published_goes_to_who_is_ignored = refl

and_not_to_who_is_passed_over : publish_rule (scored 50_000_001) listening (record { 0 = 0 }) news (5 ∷ []) ≡ Gives (publishing (scored 50_000_001) listening news (5 ∷ []) (other ∷ []) Unused)
unfolding score score_of topic_part times
and_not_to_who_is_passed_over = refl

abbrev saying : Rpc
saying = record { subs = on_news ∷ []; publish = []; control = None }

-- an RPC owes its parts
who_is_at_the_threshold_is_handled : owed (scored 80_000_000) (entry (Heard q saying) ∷ []) ≡ record { events = Part q (Sub on_news) ∷ []; groups = [] }
unfolding score score_of topic_part times
who_is_at_the_threshold_is_handled = refl

who_is_graylisted_is_heard_in_vain : owed (scored 80_000_001) (entry (Heard q saying) ∷ []) ≡ nothing
unfolding score score_of topic_part times
who_is_graylisted_is_heard_in_vain = refl
