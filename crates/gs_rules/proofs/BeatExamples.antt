-- Worked rows of what a heartbeat does to meshes and fanouts.
use Rattle.std.proofs.Common.{◌≡◌, ℕ, Bool, true, false, List, [], ◌∷◌, Option, None, Some, refl}
use Rattle.gs_base.specs.declared.names.PeerNo.{PeerNo}
use Rattle.gs_base.specs.declared.names.Topic.{Topic}
use Rattle.gs_base.specs.declared.names.Millis.{Millis}
use Rattle.gs_base.specs.declared.neighbour.Neighbour.{Neighbour}
use Rattle.gs_base.specs.declared.mark.Mark.{Mark}
use Rattle.gs_base.specs.declared.mark.Mark.TheVariants.{Backoff, Fanned, Grafted, Misbehaviour, Pruned, Published, Unfanned}
use Rattle.gs_params.specs.Params.{default_degrees, default_factors, default_thresholds, default_timing}
use Rattle.gs_mesh.specs.Cuts.{peers_of}
use Rattle.gs_score.specs.Formula.{score_of, topic_part}
use Rattle.gs_score.specs.Millionths.{times}
use Rattle.gs_base.specs.Rpcs.{grafting, pruning}
use Rattle.gs_rules.specs.declared.event.Event.{Event}
use Rattle.gs_rules.specs.declared.event.Event.TheVariants.{BeatBegin, Part, Step, Own}
use Rattle.gs_rules.specs.declared.event.RpcPart.TheVariants.{Sub}
use Rattle.gs_rules.specs.declared.event.BeatStep.TheVariants.{BeatEnd, FanEnd}
use Rattle.gs_plan.specs.declared.plan.Act.TheVariants.{Publish, Subscribe}
use Rattle.gs_rules.specs.declared.trace.Entry.{Entry}
use Rattle.gs_rules.specs.Peers.{Peer}
use Rattle.gs_rules.specs.Tables.{Entries, heartbeats}
use Rattle.gs_rules.specs.Meshes.{fanout, fanout_topics, is_stale, last_published}
use Rattle.gs_rules.specs.BeatRules.{fan_beat_rule, fan_end, mesh_beat_rule}
use Rattle.gs_rules.specs.Scoring.{score}
use Rattle.gs_base.specs.Neighbours.{accepted_neighbour}
use Rattle.gs_rules.specs.Rules.{AnyOf, CutOf, Gives, OneOf, Rule, no_effects}

-- ---- what is given

abbrev peer_of : ℕ → PeerNo
peer_of n = record { 0 = n }

-- this side dialled the second neighbour, and the others dialled it
abbrev linked : ℕ → Bool → Neighbour
linked n outbound = record (accepted_neighbour (peer_of n) (n ∷ [])) { outbound = outbound }

abbrev news : Topic
news = record { 0 = 110 ∷ [] }

abbrev other : Topic
other = record { 0 = 111 ∷ [] }

-- a mesh of at least two members, one of them outbound, and of three where it is few or many; it is bettered once in
-- `ticks` heartbeats
abbrev peer_with : ℕ → ℕ → Peer
peer_with d_high ticks = record {
  params = record {
    degrees = record default_degrees { d = 3; d_low = 2; d_high = d_high; d_out = 1; d_score = 1 };
    thresholds = default_thresholds;
    factors = default_factors;
    timing = record default_timing { opportunistic_ticks = ticks };
    flood_publish = false;
    topics = [];
  };
  neighbours = linked 1 false ∷ linked 2 true ∷ linked 3 false ∷ [];
}

abbrev peer : Peer
peer = peer_with 12 60

abbrev at : ℕ → Millis
at n = record { 0 = n }

abbrev entry : Event → Entry
entry event = record { at = at 0; event = event; effects = no_effects }

-- these neighbours came into the mesh, the first one first, and then a heartbeat charges
abbrev mesh_of : List Mark → Entries
mesh_of marks = entry BeatBegin ∷ record (entry (Step BeatEnd)) { effects = record no_effects { marks = marks } } ∷ entry (Own (Subscribe news)) ∷ []

abbrev on_news : ℕ → Entry
on_news n = entry (Part (peer_of n) (Sub (record { subscribe = Some true; topic = Some news })))

abbrev grafted : ℕ → Mark
grafted n = Grafted (peer_of n) news

abbrev pruned : ℕ → Mark
pruned n = Pruned (peer_of n) news

abbrev barred : ℕ → ℕ → Mark
barred n end = Backoff (peer_of n) news (at end)

-- how many peers a rule asks for or keeps, and of which ones
abbrev asked_of : Rule → Option (ℕ × List PeerNo)
asked_of (AnyOf n candidates next) = Some (n, candidates)
asked_of (CutOf degrees members next) = Some (degrees.d, peers_of members)
asked_of (OneOf n next) = None
asked_of (Gives x) = None

-- what a rule says after its first choice
abbrev behind : List PeerNo → Rule → Rule
behind chosen (AnyOf n candidates next) = next chosen
behind chosen (CutOf degrees members next) = next chosen
behind chosen (OneOf n next) = OneOf n next
behind chosen (Gives x) = Gives x

-- ---- meshes

heartbeats_count_from_their_charges : heartbeats (entry BeatBegin ∷ entry (Step BeatEnd) ∷ entry BeatBegin ∷ []) ≡ 2
heartbeats_count_from_their_charges = refl

-- two members, one of them outbound, and one neighbour that could come in
a_mesh_that_is_well_stays : mesh_beat_rule peer (on_news 3 ∷ mesh_of (grafted 1 ∷ grafted 2 ∷ [])) (at 2_000) news ≡ Gives no_effects
unfolding score score_of topic_part times
a_mesh_that_is_well_stays = refl

-- the first one did not keep a promise, and the others are enough
who_scores_below_0_goes
    : mesh_beat_rule peer (record (entry BeatBegin) { effects = record no_effects { marks = Misbehaviour (peer_of 1) ∷ [] } } ∷ mesh_of (grafted 1 ∷ grafted 2 ∷ grafted 3 ∷ [])) (at 2_000) news
    ≡ Gives (record no_effects { sends = (peer_of 1, pruning news 60) ∷ []; marks = pruned 1 ∷ barred 1 62_000 ∷ [] })
unfolding score score_of topic_part times
who_scores_below_0_goes = refl

-- one member: two more come in
abbrev few : Rule
few = mesh_beat_rule peer (on_news 3 ∷ on_news 2 ∷ mesh_of (grafted 1 ∷ [])) (at 2_000) news

where_members_are_few_candidates_come_in : asked_of few ≡ Some (2, peer_of 2 ∷ peer_of 3 ∷ [])
unfolding score score_of topic_part times
where_members_are_few_candidates_come_in = refl

and_hear_of_it : behind (peer_of 2 ∷ peer_of 3 ∷ []) few ≡ Gives (record no_effects { sends = (peer_of 2, grafting news) ∷ (peer_of 3, grafting news) ∷ []; marks = grafted 2 ∷ grafted 3 ∷ [] })
unfolding score score_of topic_part times
and_hear_of_it = refl

-- more than two are many here, and two are kept
abbrev many : Rule
many = mesh_beat_rule (peer_with 2 60) (mesh_of (grafted 1 ∷ grafted 2 ∷ grafted 3 ∷ [])) (at 2_000) news

where_they_are_many_some_are_kept : asked_of many ≡ Some (3, peer_of 1 ∷ peer_of 2 ∷ peer_of 3 ∷ [])
unfolding score score_of topic_part times
where_they_are_many_some_are_kept = refl

and_the_others_go : behind (peer_of 2 ∷ peer_of 3 ∷ []) many ≡ Gives (record no_effects { sends = (peer_of 1, pruning news 60) ∷ []; marks = pruned 1 ∷ barred 1 62_000 ∷ [] })
unfolding score score_of topic_part times
and_the_others_go = refl

-- the first and the third member dialled this side
without_an_outbound_one_one_comes_in : asked_of (mesh_beat_rule peer (on_news 2 ∷ mesh_of (grafted 1 ∷ grafted 3 ∷ [])) (at 2_000) news) ≡ Some (1, peer_of 2 ∷ [])
unfolding score score_of topic_part times
without_an_outbound_one_one_comes_in = refl

-- the median is 0, below the threshold of 1, and so is the score of who could come in; it is the first heartbeat
a_poor_mesh_is_bettered_by_better_ones : asked_of (mesh_beat_rule (peer_with 12 1) (on_news 3 ∷ mesh_of (grafted 1 ∷ grafted 2 ∷ [])) (at 2_000) news) ≡ Some (2, [])
unfolding score score_of topic_part times
a_poor_mesh_is_bettered_by_better_ones = refl

-- ---- fanouts

-- the peer published at five seconds, to the first and the second neighbour
abbrev fanned : Entries
fanned = record { at = at 5_000; event = (Own (Publish news [])); effects = record no_effects { marks = Fanned (peer_of 1) news ∷ Fanned (peer_of 2) news ∷ Published news ∷ [] } } ∷ []

-- the first one left the topic, and the third one came onto it
abbrev mended : Rule
mended = fan_beat_rule peer (on_news 3 ∷ on_news 2 ∷ fanned) (at 6_000) news

a_fanout_is_filled_up : asked_of mended ≡ Some (2, peer_of 3 ∷ [])
unfolding score score_of topic_part times
a_fanout_is_filled_up = refl

who_left_the_topic_leaves_it : behind (peer_of 3 ∷ []) mended ≡ Gives (record no_effects { marks = Unfanned (peer_of 1) news ∷ Fanned (peer_of 3) news ∷ [] })
unfolding score score_of topic_part times
who_left_the_topic_leaves_it = refl

-- sixty seconds after the last payload
a_fanout_is_not_stale_before_its_time : is_stale 60_000 64_999 (last_published fanned news) ≡ false
a_fanout_is_not_stale_before_its_time = refl

and_is_at_that_millisecond : is_stale 60_000 65_000 (last_published fanned news) ≡ true
and_is_at_that_millisecond = refl

without_a_fanout_nothing_is_stale : is_stale 60_000 65_000 (last_published fanned other) ≡ false
without_a_fanout_nothing_is_stale = refl

all_leave_a_fanout_that_ends : fan_end fanned news ≡ record no_effects { marks = Unfanned (peer_of 1) news ∷ Unfanned (peer_of 2) news ∷ [] }
all_leave_a_fanout_that_ends = refl

it_is_no_more : fanout (entry (Step (FanEnd news)) ∷ fanned) news ≡ []
it_is_no_more = refl

and_its_topic_has_none : fanout_topics (entry (Step (FanEnd news)) ∷ fanned) ≡ []
and_its_topic_has_none = refl

the_end_of_another_leaves_it : fanout_topics (entry (Step (FanEnd other)) ∷ fanned) ≡ news ∷ []
the_end_of_another_leaves_it = refl
