-- Worked rows of meshes, fanouts and backoffs, and of what comes of GRAFTs, PRUNEs and the peer's own topics.
use Rattle.std.proofs.Common.{◌≡◌, ℕ, pos, Bool, true, false, List, [], ◌∷◌, Option, None, Some, refl}
use Rattle.gs_base.specs.declared.names.PeerNo.{PeerNo}
use Rattle.gs_base.specs.declared.names.Topic.{Topic}
use Rattle.gs_base.specs.declared.names.Millis.{Millis}
use Rattle.gs_base.specs.declared.names.MsgId.{MsgId}
use Rattle.gs_base.specs.declared.neighbour.Neighbour.{Neighbour}
use Rattle.gs_base.specs.declared.control.Prune.{Prune}
use Rattle.gs_base.specs.declared.verdict.Verdict.TheVariants.{Accept}
use Rattle.gs_base.specs.declared.mark.Mark.{Mark}
use Rattle.gs_base.specs.declared.mark.Mark.TheVariants.{Backoff, Cached, Deficit, Fanned, First, Grafted, Misbehaviour, Near, Pruned, Published, Seen, Unfanned}
use Rattle.gs_base.specs.Names.{message_id}
use Rattle.gs_base.specs.Rpcs.{announcement, publication, pruning}
use Rattle.gs_params.specs.Params.{default_degrees, default_factors, default_thresholds, default_timing, default_topic_factors, default_topic_params}
use Rattle.gs_score.specs.Formula.{score_of, topic_part}
use Rattle.gs_score.specs.Millionths.{times}
use Rattle.gs_rules.specs.declared.event.Event.{Event}
use Rattle.gs_rules.specs.declared.event.Event.TheVariants.{BeatBegin, Part, Step, Own}
use Rattle.gs_rules.specs.declared.event.RpcPart.TheVariants.{Sub}
use Rattle.gs_rules.specs.declared.event.BeatStep.TheVariants.{BeatEnd}
use Rattle.gs_rules.specs.declared.trace.Effects.{Effects}
use Rattle.gs_plan.specs.declared.plan.Act.TheVariants.{Publish, Subscribe}
use Rattle.gs_rules.specs.declared.trace.Entry.{Entry}
use Rattle.gs_rules.specs.Peers.{Peer}
use Rattle.gs_rules.specs.Tables.{Entries}
use Rattle.gs_rules.specs.Meshes.{backoff, fanout, last_published, mesh, mesh_topics, noted}
use Rattle.gs_rules.specs.Membership.{candidates}
use Rattle.gs_rules.specs.MeshRules.{graft_rule, lost_rule, prune_rule, publish_rule, sub_rule, unsubscribe_rule}
use Rattle.gs_rules.specs.Scoring.{score}
use Rattle.gs_base.specs.Neighbours.{accepted_neighbour}
use Rattle.gs_rules.specs.Rules.{Gives, no_effects}

-- ---- what is given

abbrev peer_of : ℕ → PeerNo
peer_of n = record { 0 = n }

-- this side dialled the second neighbour, and the others dialled it
abbrev linked : ℕ → Bool → Neighbour
linked n outbound = record (accepted_neighbour (peer_of n) (n ∷ [])) { outbound = outbound }

abbrev news : Topic
news = record { 0 = 110 ∷ [] }

abbrev other : Topic
other = record { 0 = 111 ∷ [] }

abbrev peer_with : ℕ → Bool → Peer
peer_with d_high floods = record {
  params = record {
    degrees = record default_degrees { d_high = d_high };
    thresholds = default_thresholds;
    factors = default_factors;
    timing = default_timing;
    flood_publish = floods;
    topics = [];
  };
  neighbours = linked 1 false ∷ linked 2 true ∷ linked 3 false ∷ [];
}

abbrev peer : Peer
peer = peer_with 12 false

abbrev at : ℕ → Millis
at n = record { 0 = n }

abbrev entry : Event → Entry
entry event = record { at = at 0; event = event; effects = no_effects }

-- marks of a heartbeat's end, the first one first
abbrev marked : List Mark → Entry
marked marks = record (entry (Step BeatEnd)) { effects = record no_effects { marks = marks } }

abbrev grafted : ℕ → Mark
grafted n = Grafted (peer_of n) news

abbrev pruned : ℕ → Mark
pruned n = Pruned (peer_of n) news

-- ---- meshes

members_stand_by_number : mesh (marked (grafted 3 ∷ grafted 1 ∷ grafted 2 ∷ []) ∷ []) news ≡ peer_of 1 ∷ peer_of 2 ∷ peer_of 3 ∷ []
members_stand_by_number = refl

and_each_once : mesh (marked (grafted 1 ∷ []) ∷ marked (grafted 1 ∷ []) ∷ []) news ≡ peer_of 1 ∷ []
and_each_once = refl

a_pruned_one_is_out : mesh (marked (pruned 1 ∷ []) ∷ marked (grafted 1 ∷ grafted 3 ∷ []) ∷ []) news ≡ peer_of 3 ∷ []
a_pruned_one_is_out = refl

-- the later mark counts
who_comes_again_is_in : mesh (marked (pruned 1 ∷ grafted 1 ∷ []) ∷ []) news ≡ peer_of 1 ∷ []
who_comes_again_is_in = refl

who_comes_and_goes_is_out : mesh (marked (grafted 1 ∷ pruned 1 ∷ []) ∷ []) news ≡ []
who_comes_and_goes_is_out = refl

only_on_its_topic : mesh (marked (grafted 1 ∷ []) ∷ []) other ≡ []
only_on_its_topic = refl

-- ---- fanouts

abbrev fanned : Entries
fanned = record { at = at 5_000; event = (Own (Publish news [])); effects = record no_effects { marks = Fanned (peer_of 2) news ∷ Fanned (peer_of 1) news ∷ Published news ∷ [] } } ∷ []

a_fanout_stands_by_number : fanout fanned news ≡ peer_of 1 ∷ peer_of 2 ∷ []
a_fanout_stands_by_number = refl

to_subscribe_ends_it : fanout (entry (Own (Subscribe news)) ∷ fanned) news ≡ []
to_subscribe_ends_it = refl

but_not_that_of_another_topic : fanout (entry (Own (Subscribe other)) ∷ fanned) news ≡ peer_of 1 ∷ peer_of 2 ∷ []
but_not_that_of_another_topic = refl

who_leaves_it_is_out : fanout (marked (Unfanned (peer_of 2) news ∷ []) ∷ fanned) news ≡ peer_of 1 ∷ []
who_leaves_it_is_out = refl

it_is_kept_from_the_moment_of_publishing : last_published fanned news ≡ Some 5_000
it_is_kept_from_the_moment_of_publishing = refl

-- one topic has a fanout, and the other a mesh
topics_of_either_kind_ascend : mesh_topics (entry (Own (Subscribe other)) ∷ fanned) ≡ news ∷ other ∷ []
topics_of_either_kind_ascend = refl

-- ---- backoffs

abbrev barred : ℕ → ℕ → Mark
barred n end = Backoff (peer_of n) news (at end)

the_later_end_stands : backoff (marked (barred 1 5_000 ∷ []) ∷ marked (barred 1 9_000 ∷ []) ∷ []) (peer_of 1) news ≡ 9_000
the_later_end_stands = refl

also_where_it_comes_last : backoff (marked (barred 1 9_000 ∷ []) ∷ marked (barred 1 5_000 ∷ []) ∷ []) (peer_of 1) news ≡ 9_000
also_where_it_comes_last = refl

another_is_not_in_backoff : backoff (marked (barred 1 9_000 ∷ []) ∷ []) (peer_of 2) news ≡ 0
another_is_not_in_backoff = refl

-- ---- a GRAFT comes, two seconds after the start

abbrev on_news : ℕ → Entry
on_news n = entry (Part (peer_of n) (Sub (record { subscribe = Some true; topic = Some news })))

abbrev subscribed : Entries
subscribed = entry (Own (Subscribe news)) ∷ []

it_is_taken : graft_rule peer subscribed (at 2_000) (peer_of 1) news ≡ record no_effects { marks = grafted 1 ∷ [] }
unfolding score score_of topic_part times
it_is_taken = refl

on_a_topic_that_is_not_joined_it_is_passed_over : graft_rule peer [] (at 2_000) (peer_of 1) news ≡ no_effects
on_a_topic_that_is_not_joined_it_is_passed_over = refl

and_so_it_is_of_a_member : graft_rule peer (marked (grafted 1 ∷ []) ∷ subscribed) (at 2_000) (peer_of 1) news ≡ no_effects
and_so_it_is_of_a_member = refl

-- the backoff is 60 seconds
too_soon_it_is_refused_and_counts_against_its_sender
    : graft_rule peer (marked (barred 1 2_001 ∷ []) ∷ subscribed) (at 2_000) (peer_of 1) news
    ≡ record no_effects { sends = (peer_of 1, pruning news 60) ∷ []; marks = Misbehaviour (peer_of 1) ∷ barred 1 62_000 ∷ [] }
too_soon_it_is_refused_and_counts_against_its_sender = refl

-- the end itself is not too soon
at_the_end_of_a_backoff_it_is_taken : graft_rule peer (marked (barred 1 2_000 ∷ []) ∷ subscribed) (at 2_000) (peer_of 1) news ≡ record no_effects { marks = grafted 1 ∷ [] }
unfolding score score_of topic_part times
at_the_end_of_a_backoff_it_is_taken = refl

-- once to blame is ten below 0
below_0_it_is_refused
    : graft_rule peer (record (entry BeatBegin) { effects = record no_effects { marks = Misbehaviour (peer_of 1) ∷ [] } } ∷ subscribed) (at 2_000) (peer_of 1) news
    ≡ record no_effects { sends = (peer_of 1, pruning news 60) ∷ []; marks = barred 1 62_000 ∷ [] }
unfolding score score_of topic_part times
below_0_it_is_refused = refl

where_the_mesh_is_full_it_is_refused
    : graft_rule (peer_with 2 false) (marked (grafted 2 ∷ grafted 3 ∷ []) ∷ subscribed) (at 2_000) (peer_of 1) news
    ≡ record no_effects { sends = (peer_of 1, pruning news 60) ∷ []; marks = barred 1 62_000 ∷ [] }
unfolding score score_of topic_part times
where_the_mesh_is_full_it_is_refused = refl

but_not_of_one_that_was_dialled
    : graft_rule (peer_with 2 false) (marked (grafted 1 ∷ grafted 3 ∷ []) ∷ subscribed) (at 2_000) (peer_of 2) news
    ≡ record no_effects { marks = grafted 2 ∷ [] }
unfolding score score_of topic_part times
but_not_of_one_that_was_dialled = refl

-- ---- a PRUNE comes

abbrev in_mesh : Entries
in_mesh = marked (grafted 1 ∷ grafted 2 ∷ []) ∷ subscribed

abbrev prune : Option ℕ → Prune
prune backoff = record { topic = Some news; backoff = backoff }

abbrev prunes_out : ℕ → Effects
prunes_out end = record no_effects { marks = pruned 1 ∷ barred 1 end ∷ [] }

without_a_backoff_it_is_a_minute : prune_rule peer in_mesh (at 2_000) (peer_of 1) (prune None) ≡ prunes_out 62_000
without_a_backoff_it_is_a_minute = refl

and_so_it_is_for_0_seconds : prune_rule peer in_mesh (at 2_000) (peer_of 1) (prune (Some 0)) ≡ prunes_out 62_000
and_so_it_is_for_0_seconds = refl

-- a day is 86,400 seconds
more_than_a_day_is_a_day : prune_rule peer in_mesh (at 2_000) (peer_of 1) (prune (Some 100_000)) ≡ prunes_out 86_402_000
more_than_a_day_is_a_day = refl

who_is_no_member_is_only_barred
    : prune_rule peer subscribed (at 2_000) (peer_of 1) (prune (Some 5))
    ≡ record no_effects { marks = barred 1 7_000 ∷ [] }
who_is_no_member_is_only_barred = refl

-- ---- members leave

-- two deliveries are too few, and none came in the five seconds that a new member has: the square of two is missing
abbrev wanting : Peer
wanting = record {
  params = record {
    degrees = default_degrees;
    thresholds = default_thresholds;
    factors = default_factors;
    timing = default_timing;
    flood_publish = false;
    topics = (news, record default_topic_params { factors = record default_topic_factors { p3_threshold = 2_000_000 } }) ∷ [];
  };
  neighbours = linked 1 false ∷ [];
}

who_leaves_the_topic_leaves_the_mesh
    : sub_rule wanting in_mesh (at 4_999) (peer_of 1) (record { subscribe = Some false; topic = Some news })
    ≡ record no_effects { marks = pruned 1 ∷ [] }
who_leaves_the_topic_leaves_the_mesh = refl

and_is_charged_with_what_is_missing
    : sub_rule wanting in_mesh (at 5_000) (peer_of 1) (record { subscribe = Some false; topic = Some news })
    ≡ record no_effects { marks = pruned 1 ∷ Deficit (peer_of 1) news (pos 4_000_000) ∷ [] }
and_is_charged_with_what_is_missing = refl

who_is_lost_leaves_meshes_and_fanouts
    : lost_rule peer (marked (Grafted (peer_of 1) other ∷ []) ∷ entry (Own (Subscribe other)) ∷ fanned) (at 6_000) (peer_of 1)
    ≡ record no_effects { marks = Pruned (peer_of 1) other ∷ Unfanned (peer_of 1) news ∷ [] }
who_is_lost_leaves_meshes_and_fanouts = refl

-- ---- the peer's own topics

-- who is on the topic, not a member and not in backoff may be grafted
candidates_are_listeners : candidates peer (on_news 1 ∷ on_news 3 ∷ marked (barred 3 2_001 ∷ []) ∷ []) 2_000 news ≡ peer_of 1 ∷ []
unfolding score score_of topic_part times
candidates_are_listeners = refl

-- all hear of it, and each member is pruned for ten seconds
to_leave_a_topic_prunes_its_members
    : unsubscribe_rule peer in_mesh (at 2_000) news
    ≡ record no_effects {
      sends = (peer_of 1, announcement false news) ∷ (peer_of 2, announcement false news) ∷ (peer_of 3, announcement false news)
          ∷ (peer_of 1, pruning news 10) ∷ (peer_of 2, pruning news 10) ∷ [];
      marks = pruned 1 ∷ pruned 2 ∷ barred 1 12_000 ∷ barred 2 12_000 ∷ [];
    }
to_leave_a_topic_prunes_its_members = refl

-- ---- publishing

what_is_published_goes_to_the_mesh
    : publish_rule peer in_mesh (at 2_000) news (5 ∷ [])
    ≡ Gives (record no_effects {
      sends = (peer_of 1, publication news (5 ∷ [])) ∷ (peer_of 2, publication news (5 ∷ [])) ∷ [];
      delivered = (news, 5 ∷ []) ∷ [];
      marks = Seen (message_id (5 ∷ [])) Accept ∷ Cached (message_id (5 ∷ [])) news ∷ [];
    })
unfolding score score_of topic_part times
what_is_published_goes_to_the_mesh = refl

or_to_the_fanout_and_keeps_that
    : publish_rule peer fanned (at 6_000) news (5 ∷ [])
    ≡ Gives (record no_effects {
      sends = (peer_of 1, publication news (5 ∷ [])) ∷ (peer_of 2, publication news (5 ∷ [])) ∷ [];
      marks = Seen (message_id (5 ∷ [])) Accept ∷ Cached (message_id (5 ∷ [])) news ∷ Published news ∷ [];
    })
unfolding score score_of topic_part times
or_to_the_fanout_and_keeps_that = refl

-- ---- who passed a message on

abbrev id : MsgId
id = record { 0 = 1 ∷ [] }

abbrev passed : Entries
passed = marked (Seen id Accept ∷ First (peer_of 1) news id ∷ []) ∷ []

the_first_is_noted : noted passed id (peer_of 1) ≡ true
the_first_is_noted = refl

another_is_not : noted passed id (peer_of 2) ≡ false
another_is_not = refl

until_it_comes_near_the_first : noted (marked (Near (peer_of 2) news id ∷ []) ∷ passed) id (peer_of 2) ≡ true
until_it_comes_near_the_first = refl

once_seen_anew_nobody_is_noted : noted (marked (Seen id Accept ∷ []) ∷ passed) id (peer_of 1) ≡ false
once_seen_anew_nobody_is_noted = refl
