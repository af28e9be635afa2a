-- Worked rows of what is said, and of what there is to hear in it.
use Rattle.std.proofs.Common.{◌≡◌, ℕ, true, false, List, [], ◌∷◌, None, Some, refl}
use Rattle.gs_base.specs.declared.names.PeerNo.{PeerNo}
use Rattle.gs_base.specs.declared.names.MsgId.{MsgId}
use Rattle.gs_base.specs.declared.names.Topic.{Topic}
use Rattle.gs_base.specs.declared.control.Control.{Control}
use Rattle.gs_base.specs.declared.control.IHave.{IHave}
use Rattle.gs_base.specs.declared.control.IWant.{IWant}
use Rattle.gs_base.specs.declared.mark.Mark.{Mark}
use Rattle.gs_base.specs.declared.mark.Mark.TheVariants.{Cached, Answered, Offered, Asked}
use Rattle.gs_params.specs.Params.{default_degrees, default_factors, default_thresholds, default_timing}
use Rattle.gs_base.specs.declared.rpc.SubOpt.{SubOpt}
use Rattle.gs_base.specs.declared.rpc.Message.{Message}
use Rattle.gs_score.specs.Formula.{score_of}
use Rattle.gs_score.specs.Millionths.{times}
use Rattle.gs_wire.specs.declared.frames.End.TheVariants as ends
use Rattle.gs_wire.specs.Codec.{codec}
use Rattle.gs_rules.specs.declared.event.Event.{Event}
use Rattle.gs_rules.specs.declared.event.Event.TheVariants.{RoundEnd, Shut, Part, Own, Lost}
use Rattle.gs_rules.specs.declared.event.RpcPart.TheVariants.{Sub, Msg, Have, Want}
use Rattle.gs_plan.specs.declared.plan.Act.TheVariants.{Publish, HangUp, Raw}
use Rattle.gs_rules.specs.declared.event.Loss.TheVariants.{Gone}
use Rattle.gs_rules.specs.declared.trace.Entry.{Entry}
use Rattle.gs_rules.specs.Peers.{Peer}
use Rattle.gs_rules.specs.Tables.{answered, blank, kept, up}
use Rattle.gs_base.specs.Rpcs.{empty_control, unsigned}
use Rattle.gs_rules.specs.Scoring.{score}
use Rattle.gs_rules.specs.Parts.{parts}
use Rattle.gs_rules.specs.declared.refusal.Refusal.TheVariants.{NotOpen, Stopped}
use Rattle.gs_rules.specs.Refusals.{reasons, refusal}
use Rattle.gs_rules.specs.Rules.{Gives, answers, each_once, have_rule, ids_in, room_to_ask, no_effects}
use Rattle.gs_rules.specs.Saying.{Byte, EndOf, Close, out}
use Rattle.gs_rules.specs.Hearing.{Inbound, after, bytes_before, said_in, silence}
use Rattle.gs_rules.specs.Rounds.{HearFault, HearGone, ending}

-- ---- rounds of what is said

-- a round's end that comes too early counts for nothing
a_later_mark_is_passed_over : said_in 0 (EndOf 1 ∷ Byte 7 ∷ EndOf 0 ∷ Byte 8 ∷ []) ≡ Byte 7 ∷ []
a_later_mark_is_passed_over = refl

the_second_round : said_in 1 (Byte 7 ∷ EndOf 0 ∷ Byte 8 ∷ Close ∷ []) ≡ Byte 8 ∷ Close ∷ []
the_second_round = refl

a_close_stays : after 3 (Byte 7 ∷ Close ∷ []) ≡ Close ∷ []
a_close_stays = refl

bytes_of_two_rounds : bytes_before 2 (Byte 7 ∷ EndOf 0 ∷ Byte 8 ∷ EndOf 1 ∷ Byte 9 ∷ []) ≡ 7 ∷ 8 ∷ []
bytes_of_two_rounds = refl

-- ---- how hearing a neighbour ends

abbrev q : PeerNo
q = record { 0 = 1 }

abbrev closing_after : List ℕ → Inbound
closing_after rest = record { rpcs = []; rest = rest; end = ends.Waits; closes = true }

a_close_after_unread_bytes_is_a_fault : ending q (closing_after (7 ∷ [])) ≡ HearFault q ∷ []
a_close_after_unread_bytes_is_a_fault = refl

a_close_after_whole_frames_is_none : ending q (closing_after []) ≡ HearGone q ∷ []
a_close_after_whole_frames_is_none = refl

a_fault_hides_the_close : ending q (record { rpcs = []; rest = 7 ∷ []; end = ends.Malformed; closes = true }) ≡ HearFault q ∷ []
a_fault_hides_the_close = refl

silence_ends_nothing : ending q silence ≡ []
silence_ends_nothing = refl

-- ---- what a trace says

abbrev entry : Event → Entry
entry event = record { at = record { 0 = 0 }; event = event; effects = no_effects }

-- the newest entry first: a neighbour that is gone hears the end of the round before, and the close
nothing_follows_the_close : out codec (entry (RoundEnd 1) ∷ entry (Lost q Gone) ∷ entry (RoundEnd 0) ∷ []) q ≡ EndOf 0 ∷ Close ∷ []
nothing_follows_the_close = refl

-- another hears more
another_hears_more : out codec (entry (RoundEnd 1) ∷ entry (Lost q Gone) ∷ entry (RoundEnd 0) ∷ []) (record { 0 = 2 }) ≡ EndOf 0 ∷ EndOf 1 ∷ []
another_hears_more = refl

nothing_follows_a_hang_up : out codec (entry (RoundEnd 1) ∷ entry (Own (HangUp q)) ∷ entry (RoundEnd 0) ∷ []) q ≡ EndOf 0 ∷ Close ∷ []
nothing_follows_a_hang_up = refl

-- bytes go as they are, after what was said before; no bytes say nothing
raw_bytes_go_as_they_are : out codec (entry (RoundEnd 1) ∷ entry (Own (Raw q [])) ∷ entry (Own (Raw q (5 ∷ 10 ∷ []))) ∷ entry (RoundEnd 0) ∷ []) q ≡ EndOf 0 ∷ Byte 5 ∷ Byte 10 ∷ EndOf 1 ∷ []
raw_bytes_go_as_they_are = refl

nobody_else_hears_them : out codec (entry (Own (Raw q (5 ∷ 10 ∷ []))) ∷ []) (record { 0 = 2 }) ≡ []
nobody_else_hears_them = refl

nobody_is_up_after_the_shut : up (entry Shut ∷ []) q ≡ false
nobody_is_up_after_the_shut = refl

-- ---- what an RPC owes

abbrev joins : SubOpt
joins = record { subscribe = Some true; topic = None }

abbrev leaves : SubOpt
leaves = record { subscribe = Some false; topic = None }

abbrev empty_message : Message
empty_message = blank

subscriptions_come_first : parts q (record { subs = joins ∷ leaves ∷ []; publish = empty_message ∷ []; control = None }) ≡ Part q (Sub joins) ∷ Part q (Sub leaves) ∷ Part q (Msg empty_message) ∷ []
subscriptions_come_first = refl

abbrev offer : IHave
offer = record { topic = None; ids = [] }

abbrev request : IWant
request = record { ids = [] }

abbrev controls : Control
controls = record empty_control { ihave = offer ∷ []; iwant = request ∷ [] }

offers_and_requests_come_last : parts q (record { subs = joins ∷ []; publish = empty_message ∷ []; control = Some controls }) ≡ Part q (Sub joins) ∷ Part q (Msg empty_message) ∷ Part q (Have offer) ∷ Part q (Want request) ∷ []
offers_and_requests_come_last = refl

-- ---- offers

-- a peer that counts one offer, asks for five identifiers and answers twice
abbrev peer : Peer
peer = record {
  params = record {
    degrees = default_degrees;
    thresholds = default_thresholds;
    factors = default_factors;
    timing = record default_timing { max_ihave = 1; max_ihave_ids = 5; gossip_retransmission = 2 };
    flood_publish = true;
    topics = [];
  };
  neighbours = [];
}

-- an entry with one mark
abbrev marked : Event → Mark → Entry
marked event mark = record (entry event) { effects = record no_effects { marks = mark ∷ [] } }

abbrev other : PeerNo
other = record { 0 = 2 }

the_first_of_each_is_asked_for : each_once ((1 ∷ []) ∷ (2 ∷ []) ∷ (1 ∷ []) ∷ (3 ∷ []) ∷ (2 ∷ []) ∷ []) ≡ (1 ∷ []) ∷ (2 ∷ []) ∷ (3 ∷ []) ∷ []
the_first_of_each_is_asked_for = refl

what_was_asked_leaves_less_room : room_to_ask peer (marked (Part q (Have offer)) (Asked q 3) ∷ []) q ≡ 2
what_was_asked_leaves_less_room = refl

each_request_counts : room_to_ask peer (marked (Part q (Have offer)) (Asked q 2) ∷ marked (Part q (Have offer)) (Asked q 3) ∷ []) q ≡ 0
each_request_counts = refl

another_has_its_own_room : room_to_ask peer (marked (Part q (Have offer)) (Asked q 3) ∷ []) other ≡ 5
another_has_its_own_room = refl

one_offer_too_many_counts_no_more : have_rule peer (marked (Part q (Have offer)) (Offered q) ∷ []) (record { 0 = 0 }) q offer ≡ Gives no_effects
unfolding score score_of times
one_offer_too_many_counts_no_more = refl

-- the peer is subscribed to nothing
an_offer_on_a_foreign_topic_counts : have_rule peer [] (record { 0 = 0 }) q offer ≡ Gives (record no_effects { marks = Offered q ∷ [] })
unfolding score score_of times
an_offer_on_a_foreign_topic_counts = refl

-- ---- requests

-- an identifier of one byte, as tables take any
abbrev id : ℕ → MsgId
id n = record { 0 = n ∷ [] }

abbrev topic : Topic
topic = record { 0 = 116 ∷ [] }

abbrev long_id : List ℕ
long_id =
    0 ∷ 1 ∷ 2 ∷ 3 ∷ 4 ∷ 5 ∷ 6 ∷ 7 ∷ 8 ∷ 9 ∷ 10 ∷ 11 ∷ 12 ∷ 13 ∷ 14 ∷ 15 ∷
    16 ∷ 17 ∷ 18 ∷ 19 ∷ 20 ∷ 21 ∷ 22 ∷ 23 ∷ 24 ∷ 25 ∷ 26 ∷ 27 ∷ 28 ∷ 29 ∷ 30 ∷ 31 ∷ []

an_identifier_has_32_bytes : ids_in ((7 ∷ []) ∷ long_id ∷ (32 ∷ long_id) ∷ []) ≡ record { 0 = long_id } ∷ []
an_identifier_has_32_bytes = refl

-- a message that came, and is kept
abbrev keeping : Entry
keeping = marked (Part q (Msg empty_message)) (Cached (id 1) topic)

abbrev given : Event → Entry
given event = marked event (Answered q (id 1))

a_message_is_kept_with_its_topic : kept 5 (entry (RoundEnd 0) ∷ keeping ∷ []) (id 1) ≡ Some (record { topic = topic; message = empty_message; age = 0 })
a_message_is_kept_with_its_topic = refl

the_last_one_is_kept : kept 5 (marked (Own (Publish topic (7 ∷ []))) (Cached (id 1) topic) ∷ keeping ∷ []) (id 1) ≡ Some (record { topic = topic; message = unsigned topic (7 ∷ []); age = 0 })
the_last_one_is_kept = refl

a_third_request_gets_none : answers peer (keeping ∷ []) q [] (id 1 ∷ id 1 ∷ id 1 ∷ []) ≡ (id 1, empty_message) ∷ (id 1, empty_message) ∷ []
a_third_request_gets_none = refl

answers_of_before_count : answers peer (given (Part q (Want request)) ∷ keeping ∷ []) q [] (id 1 ∷ id 1 ∷ []) ≡ (id 1, empty_message) ∷ []
answers_of_before_count = refl

another_gets_its_own : answers peer (given (Part q (Want request)) ∷ given (Part q (Want request)) ∷ keeping ∷ []) other [] (id 1 ∷ []) ≡ (id 1, empty_message) ∷ []
another_gets_its_own = refl

what_is_not_kept_is_passed_over : answers peer (keeping ∷ []) q [] (id 2 ∷ id 1 ∷ []) ≡ (id 1, empty_message) ∷ []
what_is_not_kept_is_passed_over = refl

two_answers_are_counted : answered (given (Part q (Want request)) ∷ given (Part q (Want request)) ∷ keeping ∷ []) q (id 1) ≡ 2
two_answers_are_counted = refl

what_is_kept_anew_is_counted_anew : answered (keeping ∷ given (Part q (Want request)) ∷ given (Part q (Want request)) ∷ keeping ∷ []) q (id 1) ≡ 0
what_is_kept_anew_is_counted_anew = refl

and_on_from_there : answered (given (Part q (Want request)) ∷ keeping ∷ given (Part q (Want request)) ∷ keeping ∷ []) q (id 1) ≡ 1
and_on_from_there = refl

-- ---- what is refused where a neighbour is not up

a_neighbour_that_is_up_may_be_hung_up_on : reasons peer [] 0 (Own (HangUp q)) ≡ (false, Stopped) ∷ (false, NotOpen) ∷ []
a_neighbour_that_is_up_may_be_hung_up_on = refl

nobody_is_hung_up_on_twice : refusal peer (entry (Own (HangUp q)) ∷ []) 0 (Own (HangUp q)) ≡ Some NotOpen
nobody_is_hung_up_on_twice = refl

nothing_is_put_on_a_closed_link : refusal peer (entry (Lost q Gone) ∷ []) 0 (Own (Raw q (5 ∷ []))) ≡ Some NotOpen
nothing_is_put_on_a_closed_link = refl

who_has_shut_down_is_refused_for_that_first : refusal peer (entry Shut ∷ []) 0 (Own (Raw q (5 ∷ []))) ≡ Some Stopped
who_has_shut_down_is_refused_for_that_first = refl
