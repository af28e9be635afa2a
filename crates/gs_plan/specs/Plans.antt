-- Which peers are joined in a plan, the words for what a peer is to do, and what holds for every plan that was read.
use Rattle.std.specs.Prelude.{◌≡◌, ◌≤◌, ◌<◌, ◌≤ℤ◌, ◌%◌, ◌^◌, ◌&&◌, ◌||◌, ◌==◌, ℕ, nat_eq, ℤ, pos, neg_ℤ, Bool, true, false, codes, List, length, All, AllPairs, Ok, Option, Some, None, IfSome}
use Rattle.std.specs.List.{list_any}
use Rattle.std.specs.Cmp.Lexicographic.{pointwise}
use Rattle.gs_base.specs.Names.{same_peer, same_topic}
use Rattle.gs_base.specs.declared.names.PeerNo.{PeerNo}
use Rattle.gs_base.specs.declared.names.Topic.{Topic}
use Rattle.gs_params.specs.Params.{checked}
use Rattle.gs_params.specs.declared.topic_params.TopicParams.{TopicParams}
use Rattle.gs_plan.specs.Limits.{most_peers}
use Rattle.gs_plan.specs.declared.limits.Limits.{Limits}
use Rattle.gs_plan.specs.declared.limits.Limits.TheVariants.{Large}
use Rattle.gs_plan.specs.declared.plan.App.{App}
use Rattle.gs_plan.specs.declared.plan.Dial.{Dial}
use Rattle.gs_plan.specs.declared.plan.Explicit.{Explicit}
use Rattle.gs_plan.specs.declared.plan.Line.{Line}
use Rattle.gs_plan.specs.declared.plan.Plan.{Plan}
use Rattle.gs_plan.specs.declared.plan.PlannedPeer.{PlannedPeer}
use Rattle.gs_plan.specs.declared.plan.Act.{Act}
use Rattle.gs_plan.specs.declared.plan.Act.TheVariants.{Subscribe, Unsubscribe, Publish, Raw, HangUp}

-- ---- numbers

-- the most milliseconds of a round
abbrev pub longest_round : ℕ
longest_round = 60_000

-- the highest number of the last round
abbrev pub most_rounds : ℕ
most_rounds = 100_000

-- the most topics that have parameters
abbrev pub most_planned_topics : ℕ
most_planned_topics = 32

abbrev pub most_workers : ℕ
most_workers = 16

-- the most items that a link holds
abbrev pub highest_capacity : ℕ
highest_capacity = 1_024

-- the most bytes that a line puts on a link unchanged
abbrev pub longest_raw : ℕ
longest_raw = 2_097_152

-- the most milliseconds for which a peer had been up when round 0 began
abbrev pub highest_phase : ℕ
highest_phase = 1_000_000_000

-- in millionths; the lowest score is its negative
abbrev pub highest_app_score : ℤ
highest_app_score = pos 1_000_000_000

-- ---- dials

-- a dial joins two peers, whichever of the two dials
abbrev pub joins : PeerNo → PeerNo → Dial → Bool
joins p q dial = (same_peer dial.from p && same_peer dial.to q) || (same_peer dial.from q && same_peer dial.to p)

-- one of two peers dials the other
abbrev pub are_joined : List Dial → PeerNo → PeerNo → Bool
are_joined dials p q = list_any (joins p q) dials

-- two dials join the same peers
abbrev pub join_the_same : Dial → Dial → Bool
join_the_same x y = joins x.from x.to y

-- ---- what a plan refers to

-- it is the number of one of these peers
abbrev pub IsOneOf : List PlannedPeer → PeerNo → Type 0
IsOneOf peers p = p.0 < length peers

-- two scores are of the same peer for the same neighbour
abbrev pub are_of_the_same : App → App → Bool
are_of_the_same x y = (x.peer.0 == y.peer.0) && (x.about.0 == y.about.0)

-- two agreements are of the same peer with the same neighbour
abbrev pub are_one_pair : Explicit → Explicit → Bool
are_one_pair x y = (x.peer.0 == y.peer.0) && (x.about.0 == y.about.0)

-- a score in millionths that an application may give
abbrev pub IsAppScore : ℤ → Type 0
IsAppScore z = (neg_ℤ highest_app_score ≤ℤ z) × (z ≤ℤ highest_app_score)

-- the topic of what is done, where it has one
abbrev pub topic_of : Act → Option Topic
topic_of (Subscribe topic) = Some topic
topic_of (Unsubscribe topic) = Some topic
topic_of (Publish topic payload) = Some topic
topic_of (Raw to bytes) = None
topic_of (HangUp to) = None

-- the neighbour whose link it is done to, where there is one
abbrev pub neighbour_of : Act → Option PeerNo
neighbour_of (Subscribe topic) = None
neighbour_of (Unsubscribe topic) = None
neighbour_of (Publish topic payload) = None
neighbour_of (Raw to bytes) = Some to
neighbour_of (HangUp to) = Some to

-- the bytes that are put on a link unchanged, where there are some
abbrev pub raw_of : Act → Option (List ℕ)
raw_of (Subscribe topic) = None
raw_of (Unsubscribe topic) = None
raw_of (Publish topic payload) = None
raw_of (Raw to bytes) = Some bytes
raw_of (HangUp to) = None

abbrev pub have_one_name : PlannedPeer → PlannedPeer → Bool
have_one_name x y = pointwise nat_eq x.name y.name

-- says whether it is one of the topics that have parameters
abbrev pub has_topic : List (Topic × TopicParams) → Topic → Bool
has_topic topics topic = list_any (λ (known : Topic × TopicParams). same_topic known.0 topic) topics

-- ---- words

-- the word for what a peer is to do
abbrev pub what_word : Act → List ℕ
what_word (Subscribe topic) = codes "subscribe"
what_word (Unsubscribe topic) = codes "unsubscribe"
what_word (Publish topic payload) = codes "publish"
what_word (Raw to bytes) = codes "raw"
what_word (HangUp to) = codes "hang_up"

-- ---- plans

-- What holds for every plan that was read within these limits.
pub record IsWithin (limits : Limits) (plan : Plan) : Type 0 where
  -- numbers and lengths are in range
  pub some_rounds : 1 ≤ plan.rounds
  pub rounds : plan.rounds ≤ most_rounds
  pub some_time : 1 ≤ plan.round_ms
  pub round_ms : plan.round_ms ≤ longest_round
  pub some_workers : 1 ≤ plan.workers
  pub workers : plan.workers ≤ most_workers
  pub some_capacity : 1 ≤ plan.capacity
  pub capacity : plan.capacity ≤ highest_capacity
  pub seed : plan.seed < 2 ^ 63
  pub some_peers : 1 ≤ length plan.peers
  pub peers : length plan.peers ≤ most_peers limits
  pub some_topics : 1 ≤ length plan.params.topics
  pub topics : length plan.params.topics ≤ most_planned_topics
  -- each peer has its own name, and so has each topic
  pub names_differ : AllPairs (λ x y. have_one_name x y ≡ false) plan.peers
  pub topics_differ : AllPairs (λ (x y : Topic × TopicParams). same_topic x.0 y.0 ≡ false) plan.params.topics
  -- its parameters passed their checks, and heartbeats and decays take whole rounds
  pub params : checked plan.params ≡ Ok plan.params
  pub heartbeat : plan.params.timing.heartbeat_ms % plan.round_ms ≡ 0
  pub decay : plan.params.timing.decay_ms % plan.round_ms ≡ 0
  -- each peer had been up for whole rounds when round 0 began
  pub phases : All (λ (peer : PlannedPeer). peer.phase_ms ≤ highest_phase) plan.peers
  pub phases_take_rounds : All (λ (peer : PlannedPeer). peer.phase_ms % plan.round_ms ≡ 0) plan.peers
  -- a dial joins two peers of the plan, and no other dial joins them
  pub dials_from : All (λ (dial : Dial). IsOneOf plan.peers dial.from) plan.dials
  pub dials_to : All (λ (dial : Dial). IsOneOf plan.peers dial.to) plan.dials
  pub dials_to_others : All (λ (dial : Dial). same_peer dial.from dial.to ≡ false) plan.dials
  pub dials_differ : AllPairs (λ x y. join_the_same y x ≡ false) plan.dials
  -- Each score is of a peer of the plan for a neighbour of it. No two are of the same peer for the same neighbour.
  pub apps_of : All (λ (app : App). IsOneOf plan.peers app.peer) plan.apps
  pub apps_about : All (λ (app : App). are_joined plan.dials app.peer app.about ≡ true) plan.apps
  pub app_values : All (λ (app : App). IsAppScore app.value) plan.apps
  pub apps_differ : AllPairs (λ x y. are_of_the_same y x ≡ false) plan.apps
  -- Each peering agreement is of a peer of the plan with a neighbour of it. No two are of the same peer with the same neighbour.
  pub explicit_of : All (λ (agreement : Explicit). IsOneOf plan.peers agreement.peer) plan.explicit
  pub explicit_about :
      All (λ (agreement : Explicit). are_joined plan.dials agreement.peer agreement.about ≡ true) plan.explicit
  pub explicit_differ : AllPairs (λ x y. are_one_pair y x ≡ false) plan.explicit
  -- Each line of the script is for a peer of the plan, in one of its rounds. Its topic, if it has one, is one of the plan.
  -- Its neighbour, if it has one, is one of the peer. Its raw bytes, if it has any, are not too many.
  pub lines_of : All (λ (line : Line). IsOneOf plan.peers line.peer) plan.script
  pub lines_at : All (λ (line : Line). line.at ≤ plan.rounds) plan.script
  pub lines_on
      : All (λ (line : Line). IfSome (topic_of line.what) (λ topic. has_topic plan.params.topics topic ≡ true)) plan.script
  pub lines_to
      : All (λ (line : Line). IfSome (neighbour_of line.what) (λ to. are_joined plan.dials line.peer to ≡ true)) plan.script
  pub lines_raw : All (λ (line : Line). IfSome (raw_of line.what) (λ bytes. length bytes ≤ longest_raw)) plan.script

-- what holds for every plan that was read
abbrev pub IsInRange : Plan → Type 0
IsInRange plan = IsWithin Large plan
