-- Worked rows of what is kept and gossiped, of budgets and promises, and of when there is a heartbeat.
use Rattle.std.proofs.Common.{◌≡◌, ℕ, true, [], ◌∷◌, None, Some, refl}
use Rattle.std.specs.List.{AllByRecursion, list_any}
use Rattle.gs_base.specs.declared.names.PeerNo.{PeerNo}
use Rattle.gs_base.specs.declared.names.Topic.{Topic}
use Rattle.gs_base.specs.declared.names.MsgId.{MsgId}
use Rattle.gs_base.specs.declared.neighbour.Neighbour.{Neighbour}
use Rattle.gs_base.specs.declared.control.IHave.{IHave}
use Rattle.gs_base.specs.declared.verdict.Verdict.TheVariants.{Accept, Reject}
use Rattle.gs_base.specs.declared.mark.Mark.{Mark}
use Rattle.gs_base.specs.declared.mark.Mark.TheVariants.{Seen, Misbehaviour, Cached, Offered, Asked, Published}
use Rattle.gs_params.specs.Params.{default_degrees, default_factors, default_thresholds, default_timing}
use Rattle.gs_base.specs.Rpcs.{offering}
use Rattle.gs_rules.specs.declared.event.Event.{Event}
use Rattle.gs_rules.specs.declared.event.Event.TheVariants.{BeatBegin, Part, Step, Own, Lost}
use Rattle.gs_rules.specs.declared.event.RpcPart.TheVariants.{Msg, Have}
use Rattle.gs_rules.specs.declared.event.BeatStep.TheVariants.{MeshBeat, FanBeat, FanEnd, GossipBeat, BeatEnd}
use Rattle.gs_plan.specs.declared.plan.Act.TheVariants.{Subscribe, Unsubscribe, Publish}
use Rattle.gs_rules.specs.declared.event.Loss.TheVariants.{Gone}
use Rattle.gs_rules.specs.declared.trace.Promise.{Promise}
use Rattle.gs_rules.specs.declared.trace.Entry.{Entry}
use Rattle.gs_rules.specs.Peers.{Peer, windows}
use Rattle.gs_rules.specs.Tables.{Entries, asked, blank, keeping_order, kept, offers, own_topics, promises}
use Rattle.gs_rules.specs.Gossip.{IsOpen, all_charges, ends_promise, gossip, gossip_size, gossipable, keeps_promise}
use Rattle.gs_rules.specs.Owed.{FanBeats, Gossips, owed}
use Rattle.gs_rules.specs.Rules.{gossiping, no_effects}
use Rattle.gs_base.specs.Neighbours.{accepted_neighbour}
use Rattle.gs_rules.specs.Rounds.{Seat, DecayCounters, Beat, EndRound, Playing, agenda}

-- ---- what is given

abbrev q : PeerNo
q = record { 0 = 1 }

abbrev other : PeerNo
other = record { 0 = 2 }

abbrev linked : PeerNo → Neighbour
linked r = record (accepted_neighbour r []) { outbound = true }

-- a peer that keeps a message for three heartbeats and gossips of it for two
abbrev peer : Peer
peer = record {
  params = record {
    degrees = default_degrees;
    thresholds = default_thresholds;
    factors = default_factors;
    timing = record default_timing { mcache_len = 3; mcache_gossip = 2 };
    flood_publish = true;
    topics = [];
  };
  neighbours = linked q ∷ linked other ∷ [];
}

-- topics by their bytes
abbrev a : Topic
a = record { 0 = 97 ∷ [] }

abbrev ab : Topic
ab = record { 0 = 97 ∷ 98 ∷ [] }

abbrev b : Topic
b = record { 0 = 98 ∷ [] }

-- an identifier of one byte, as tables take any
abbrev id : ℕ → MsgId
id n = record { 0 = n ∷ [] }

abbrev entry_at : ℕ → Event → Entry
entry_at at event = record { at = record { 0 = at }; event = event; effects = no_effects }

abbrev entry : Event → Entry
entry event = entry_at 0 event

abbrev marked : Event → Mark → Entry
marked event mark = record (entry event) { effects = record no_effects { marks = mark ∷ [] } }

-- a message that came, and is kept as one of a topic
abbrev keeping : ℕ → Topic → Entry
keeping n t = marked (Part q (Msg blank)) (Cached (id n) t)

abbrev beat_end : Entry
beat_end = entry (Step BeatEnd)

-- ---- what is kept

-- two heartbeats ended
a_message_is_kept_before_its_last_heartbeat : kept (windows peer) (beat_end ∷ beat_end ∷ keeping 1 a ∷ []) (id 1) ≡ Some (record { topic = a; message = blank; age = 2 })
a_message_is_kept_before_its_last_heartbeat = refl

-- three did
a_message_is_gone_with_its_last_heartbeat : kept (windows peer) (beat_end ∷ beat_end ∷ beat_end ∷ keeping 1 a ∷ []) (id 1) ≡ None
a_message_is_gone_with_its_last_heartbeat = refl

-- other events don't count
a_message_ages_only_with_heartbeats : kept (windows peer) (beat_end ∷ entry (Step (GossipBeat a)) ∷ entry BeatBegin ∷ keeping 1 a ∷ []) (id 1) ≡ Some (record { topic = a; message = blank; age = 1 })
a_message_ages_only_with_heartbeats = refl

-- its age begins anew
a_message_that_is_kept_again_is_young : kept (windows peer) (keeping 1 a ∷ beat_end ∷ beat_end ∷ keeping 1 a ∷ []) (id 1) ≡ Some (record { topic = a; message = blank; age = 0 })
a_message_that_is_kept_again_is_young = refl

-- message 1 was kept first on the one topic, and then on the other
abbrev moved : Entries
moved = keeping 1 b ∷ keeping 2 a ∷ keeping 1 a ∷ []

-- message 2 is now the older one
a_message_that_is_kept_again_stands_last : keeping_order moved ≡ id 2 ∷ id 1 ∷ []
a_message_that_is_kept_again_stands_last = refl

-- and message 1 is no more one of the first topic
a_message_that_is_kept_again_is_of_the_other_topic : kept (windows peer) moved (id 1) ≡ Some (record { topic = b; message = blank; age = 0 })
a_message_that_is_kept_again_is_of_the_other_topic = refl

-- ---- what is gossiped

-- one heartbeat ended
a_message_is_gossiped_at_the_second_heartbeat : gossip peer (beat_end ∷ keeping 1 a ∷ []) a ≡ id 1 ∷ []
a_message_is_gossiped_at_the_second_heartbeat = refl

-- two did: it is kept, and no longer gossiped
a_message_is_gossiped_no_third_time : gossip peer (beat_end ∷ beat_end ∷ keeping 1 a ∷ []) a ≡ []
a_message_is_gossiped_no_third_time = refl

-- message 1 was kept one heartbeat earlier
the_oldest_is_gossiped_first : gossip peer (keeping 2 a ∷ beat_end ∷ keeping 1 a ∷ []) a ≡ id 1 ∷ id 2 ∷ []
the_oldest_is_gossiped_first = refl

-- where few are, none is left out
what_may_be_gossiped_is : gossipable peer (keeping 2 a ∷ beat_end ∷ keeping 1 a ∷ []) a ≡ id 1 ∷ id 2 ∷ []
what_may_be_gossiped_is = refl

-- what was moved to the other topic is gossiped only there
gossip_on_the_one_topic : gossip peer moved a ≡ id 2 ∷ []
gossip_on_the_one_topic = refl

-- message 1 is left there
gossip_on_the_other_topic : gossip peer moved b ≡ id 1 ∷ []
gossip_on_the_other_topic = refl

-- after the charges a heartbeat mends the mesh of each topic to which the peer is subscribed
abbrev charged : Entries
charged = entry BeatBegin ∷ keeping 2 ab ∷ keeping 1 b ∷ entry (Own (Subscribe b)) ∷ entry (Own (Subscribe a)) ∷ []

a_heartbeat_mends_meshes_first : owed peer charged ≡ record { events = Step (MeshBeat a) ∷ Step (MeshBeat b) ∷ []; groups = FanBeats 0 ∷ Gossips ∷ [] }
a_heartbeat_mends_meshes_first = refl

one_after_the_other : owed peer (entry (Step (MeshBeat a)) ∷ charged) ≡ record { events = Step (MeshBeat b) ∷ []; groups = FanBeats 0 ∷ Gossips ∷ [] }
one_after_the_other = refl

-- of two topics one has messages, and on a third, which has one, the peer is not subscribed; no topic has a fanout
a_heartbeat_gossips_where_there_is_something : owed peer (entry (Step (MeshBeat b)) ∷ entry (Step (MeshBeat a)) ∷ charged) ≡ record { events = Step (GossipBeat b) ∷ (Step BeatEnd) ∷ []; groups = [] }
a_heartbeat_gossips_where_there_is_something = refl

-- with nothing to say it ends at once
a_quiet_heartbeat_ends : owed peer (entry (Step (MeshBeat a)) ∷ entry BeatBegin ∷ entry (Own (Subscribe a)) ∷ []) ≡ record { events = (Step BeatEnd) ∷ []; groups = [] }
a_quiet_heartbeat_ends = refl

-- without a topic it ends at once
a_heartbeat_of_no_topic_ends : owed peer (entry BeatBegin ∷ []) ≡ record { events = (Step BeatEnd) ∷ []; groups = [] }
a_heartbeat_of_no_topic_ends = refl

-- the peer published on a topic at millisecond 0, without being subscribed, and is subscribed to another
abbrev with_fanout : Entries
with_fanout = entry (Own (Subscribe a)) ∷ marked (Own (Publish b [])) (Published b) ∷ []

-- a millisecond before its time has come
a_fanout_is_mended_after_the_meshes : owed peer (entry_at 59_999 (Step (MeshBeat a)) ∷ entry_at 59_999 BeatBegin ∷ with_fanout) ≡ record { events = Step (FanBeat b) ∷ []; groups = Gossips ∷ [] }
a_fanout_is_mended_after_the_meshes = refl

-- at that very millisecond
a_fanout_ends_at_its_time : owed peer (entry_at 60_000 (Step (MeshBeat a)) ∷ entry_at 60_000 BeatBegin ∷ with_fanout) ≡ record { events = Step (FanEnd b) ∷ []; groups = Gossips ∷ [] }
a_fanout_ends_at_its_time = refl

-- the messages of a topic whose fanout ended are not gossiped any more
gossip_is_reached_after_that : owed peer (entry_at 60_000 (Step (FanEnd b)) ∷ entry_at 60_000 (Step (MeshBeat a)) ∷ entry_at 60_000 BeatBegin ∷ keeping 1 b ∷ with_fanout) ≡ record { events = (Step BeatEnd) ∷ []; groups = [] }
gossip_is_reached_after_that = refl

-- both hear the same
each_that_is_chosen_gets_it : (gossiping peer moved a (q ∷ other ∷ [])).sends ≡ (q, offering a ((2 ∷ []) ∷ [])) ∷ (other, offering a ((2 ∷ []) ∷ [])) ∷ []
each_that_is_chosen_gets_it = refl

-- a quarter
a_quarter_of_forty_gets_gossip : gossip_size peer 40 ≡ 10
a_quarter_of_forty_gets_gossip = refl

-- six at least, if there are six
six_of_eight_get_gossip : gossip_size peer 8 ≡ 6
six_of_eight_get_gossip = refl

-- ---- budgets

abbrev nothing_offered : IHave
nothing_offered = record { topic = None; ids = [] }

-- an offer that counted, and one for which three were asked
abbrev offered : Entry
offered = marked (Part q (Have nothing_offered)) (Offered q)

abbrev asked_three : Entry
asked_three = marked (Part q (Have nothing_offered)) (Asked q 3)

-- without a heartbeat between them
offers_count : offers (offered ∷ offered ∷ []) q ≡ 2
offers_count = refl

-- one came since the heartbeat
offers_count_anew_after_a_heartbeat : offers (offered ∷ beat_end ∷ offered ∷ offered ∷ []) q ≡ 1
offers_count_anew_after_a_heartbeat = refl

-- the start of a heartbeat changes nothing
offers_count_until_the_heartbeat_ends : offers (entry BeatBegin ∷ offered ∷ offered ∷ []) q ≡ 2
offers_count_until_the_heartbeat_ends = refl

-- six were asked before it, and three since
what_is_asked_counts_anew_after_a_heartbeat : asked (asked_three ∷ beat_end ∷ asked_three ∷ asked_three ∷ []) q ≡ 3
what_is_asked_counts_anew_after_a_heartbeat = refl

-- ---- promises

-- a neighbour promises a message until millisecond 1,000
abbrev promise : PeerNo → ℕ → Promise
promise r n = record { from = r; id = id n; until = record { 0 = 1_000 } }

abbrev promising : PeerNo → ℕ → Entry
promising r n = record (entry (Part r (Have nothing_offered))) { effects = record no_effects { promise = Some (promise r n) } }

-- one millisecond before
a_promise_is_there_before_its_time : promises (entry_at 999 BeatBegin ∷ promising q 1 ∷ []) ≡ promise q 1 ∷ []
a_promise_is_there_before_its_time = refl

-- at that very millisecond
a_promise_ends_at_its_time : promises (entry_at 1_000 BeatBegin ∷ promising q 1 ∷ []) ≡ []
a_promise_ends_at_its_time = refl

-- the end of the heartbeat ends none
a_promise_ends_at_the_start_of_a_heartbeat : promises (entry_at 2_000 (Step BeatEnd) ∷ promising q 1 ∷ []) ≡ promise q 1 ∷ []
a_promise_ends_at_the_start_of_a_heartbeat = refl

-- another neighbour sent the message
whoever_sends_a_message_keeps_the_promise : promises (marked (Part other (Msg blank)) (Seen (id 1) Accept) ∷ promising q 1 ∷ []) ≡ []
whoever_sends_a_message_keeps_the_promise = refl

-- it was found to be one that nobody may send
a_message_that_is_rejected_keeps_the_promise : promises (marked (Part other (Msg blank)) (Seen (id 1) Reject) ∷ promising q 1 ∷ []) ≡ []
a_message_that_is_rejected_keeps_the_promise = refl

-- message 2 came, of the neighbour that promised message 1
another_message_keeps_no_promise : promises (marked (Part q (Msg blank)) (Seen (id 2) Accept) ∷ promising q 1 ∷ []) ≡ promise q 1 ∷ []
another_message_keeps_no_promise = refl

-- what was seen before the promise was made
an_earlier_message_keeps_no_promise : promises (promising q 1 ∷ marked (Part q (Msg blank)) (Seen (id 1) Accept) ∷ []) ≡ promise q 1 ∷ []
an_earlier_message_keeps_no_promise = refl

-- one millisecond before
a_promise_is_not_charged_before_its_time : all_charges peer (promising q 1 ∷ []) 999 ≡ []
a_promise_is_not_charged_before_its_time = refl

-- at that very millisecond
a_broken_promise_is_charged : all_charges peer (promising q 1 ∷ []) 1_000 ≡ Misbehaviour q ∷ []
a_broken_promise_is_charged = refl

-- it promised before it closed its link
a_neighbour_that_is_gone_is_not_charged : all_charges peer (entry (Lost q Gone) ∷ promising q 1 ∷ []) 1_000 ≡ []
a_neighbour_that_is_gone_is_not_charged = refl

-- neighbour 2 promised first, and neighbour 1 twice
each_broken_promise_is_charged : all_charges peer (promising q 3 ∷ promising q 2 ∷ promising other 1 ∷ []) 1_000 ≡ Misbehaviour q ∷ Misbehaviour q ∷ Misbehaviour other ∷ []
each_broken_promise_is_charged = refl

-- another message came, a heartbeat ended none a millisecond before, and another ended late
a_promise_stays_open : AllByRecursion (IsOpen (promise q 1)) (entry_at 2_000 (Step BeatEnd) ∷ entry_at 999 BeatBegin ∷ marked (Part q (Msg blank)) (Seen (id 2) Accept) ∷ [])
a_promise_stays_open = (record { unkept = refl; unended = refl }, (record { unkept = refl; unended = refl }, (record { unkept = refl; unended = refl }, tt)))

-- at that very millisecond
a_heartbeat_ends_a_promise_at_its_time : ends_promise (promise q 1) BeatBegin 1_000 ≡ true
a_heartbeat_ends_a_promise_at_its_time = refl

-- it is marked after another one
a_message_keeps_its_promise : list_any (keeps_promise (promise q 1)) (Seen (id 2) Accept ∷ Seen (id 1) Reject ∷ []) ≡ true
a_message_keeps_its_promise = refl

-- ---- when there is a heartbeat

-- rounds of 100 milliseconds, and a heartbeat each second
abbrev seat : Seat
seat = record { number = record { 0 = 0 }; peer = peer; lines = []; round_ms = 100; rounds = 30; phase_ms = 0 }

-- at millisecond 0
no_heartbeat_in_the_first_round : agenda seat (Playing 0) [] ≡ EndRound 0 ∷ []
no_heartbeat_in_the_first_round = refl

-- at millisecond 1,000
a_heartbeat_in_the_tenth_round : agenda seat (Playing 10) [] ≡ DecayCounters ∷ Beat ∷ EndRound 10 ∷ []
a_heartbeat_in_the_tenth_round = refl

-- at millisecond 1,100
no_heartbeat_in_the_eleventh_round : agenda seat (Playing 11) [] ≡ EndRound 11 ∷ []
no_heartbeat_in_the_eleventh_round = refl

-- at millisecond 2,000
a_heartbeat_in_the_twentieth_round : agenda seat (Playing 20) [] ≡ DecayCounters ∷ Beat ∷ EndRound 20 ∷ []
a_heartbeat_in_the_twentieth_round = refl

-- the same, where counters decay every 300 milliseconds
abbrev decaying : Seat
decaying = record seat { peer = record peer { params = record peer.params { timing = record default_timing { decay_ms = 300 } } } }

-- at millisecond 0
no_step_of_decay_in_the_first_round : agenda decaying (Playing 0) [] ≡ EndRound 0 ∷ []
no_step_of_decay_in_the_first_round = refl

-- at millisecond 300
a_step_of_decay_in_the_third_round : agenda decaying (Playing 3) [] ≡ DecayCounters ∷ EndRound 3 ∷ []
a_step_of_decay_in_the_third_round = refl

-- at millisecond 1,000
a_heartbeat_without_a_step_of_decay : agenda decaying (Playing 10) [] ≡ Beat ∷ EndRound 10 ∷ []
a_heartbeat_without_a_step_of_decay = refl

-- at millisecond 3,000
a_step_of_decay_comes_before_a_heartbeat : agenda decaying (Playing 30) [] ≡ DecayCounters ∷ Beat ∷ EndRound 30 ∷ []
a_step_of_decay_comes_before_a_heartbeat = refl

-- ---- the peer's own topics

abbrev joining : Topic → Entry
joining t = entry (Own (Subscribe t))

-- they were subscribed to in descending order
own_topics_ascend : own_topics (joining a ∷ joining ab ∷ joining b ∷ []) ≡ a ∷ ab ∷ b ∷ []
own_topics_ascend = refl

-- and in ascending order
own_topics_ascend_in_any_order : own_topics (joining b ∷ joining ab ∷ joining a ∷ []) ≡ a ∷ ab ∷ b ∷ []
own_topics_ascend_in_any_order = refl

-- the middle one was left
own_topics_are_not_those_that_were_left : own_topics (entry (Own (Unsubscribe ab)) ∷ joining b ∷ joining ab ∷ joining a ∷ []) ≡ a ∷ b ∷ []
own_topics_are_not_those_that_were_left = refl

-- it was left, and subscribed to again
own_topics_stand_once : own_topics (joining b ∷ entry (Own (Unsubscribe b)) ∷ joining a ∷ joining b ∷ []) ≡ a ∷ b ∷ []
own_topics_stand_once = refl
