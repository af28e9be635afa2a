-- What is checked about parameters, in which order, and which fault comes first.
use Rattle.std.specs.Prelude.{◌+◌, ◌*◌, ◌++◌, ◌&&◌, ℕ, nat_le, nat_lt, Bool, not, List, [], ◌∷◌, Option, Some, None, Result, Ok, Err, ℤ, pos, neg_ℤ, int_le, int_lt}
use Rattle.std.specs.List.{find}
use Rattle.gs_base.specs.declared.names.Topic.{Topic}
use Rattle.gs_base.specs.Rpcs.{longest_backoff, most_identifiers}
use Rattle.gs_params.specs.declared.params.Degrees.{Degrees}
use Rattle.gs_params.specs.declared.params.Thresholds.{Thresholds}
use Rattle.gs_params.specs.declared.params.Factors.{Factors}
use Rattle.gs_params.specs.declared.params.Timing.{Timing}
use Rattle.gs_params.specs.declared.params.Params.{Params}
use Rattle.gs_params.specs.declared.topic_params.TopicFactors.{TopicFactors}
use Rattle.gs_params.specs.declared.topic_params.TopicTiming.{TopicTiming}
use Rattle.gs_params.specs.declared.topic_params.TopicParams.{TopicParams}
use Rattle.gs_params.specs.declared.parameter.Parameter.TheVariants as of
use Rattle.gs_params.specs.declared.parameter.TopicParameter.TheVariants as topic
use Rattle.gs_params.specs.declared.checks.CountRule.{CountRule}
use Rattle.gs_params.specs.declared.checks.CountRule.TheVariants as count
use Rattle.gs_params.specs.declared.checks.ScoreRule.{ScoreRule}
use Rattle.gs_params.specs.declared.checks.ScoreRule.TheVariants as score
use Rattle.gs_params.specs.declared.checks.Check.{Check}
use Rattle.gs_params.specs.declared.checks.Check.TheVariants.{Count, Score}
use Rattle.gs_params.specs.declared.param_fault.ParamFault.{ParamFault}
use Rattle.gs_params.specs.declared.param_fault.ParamFault.TheVariants as faults

-- ---- numbers

-- the longest time, in milliseconds
abbrev pub longest_time : ℕ
longest_time = 1_000_000_000

-- the heaviest weight, in millionths: the weight of what counts against a neighbour is at least its negative
abbrev pub heaviest : ℤ
heaviest = pos 1_000_000_000

-- the highest cap, in millionths
abbrev pub highest_cap : ℕ
highest_cap = 1_000_000_000_000

-- the highest degree of a mesh, and the highest `d_lazy` and `opportunistic_peers`
abbrev pub highest_degree : ℕ
highest_degree = 64

-- the highest factor: one, in millionths
abbrev pub highest_factor : ℕ
highest_factor = 1_000_000

-- the most neighbours at one address that cost nothing
abbrev pub most_at_an_address : ℕ
most_at_an_address = 65_535

-- the most heartbeats for which a message is kept
abbrev pub longest_memory : ℕ
longest_memory = 64

-- the most heartbeats from one opportunistic graft to the next
abbrev pub most_ticks : ℕ
most_ticks = 1_000_000

-- the most offers from a neighbour that count from heartbeat to heartbeat
abbrev pub most_offers : ℕ
most_offers = 1_000

-- the most times that a message is sent to a neighbour that asks for it
abbrev pub most_retransmissions : ℕ
most_retransmissions = 1_000

abbrev pub in_range : ℕ → ℕ → ℕ → Bool
in_range low high n = nat_le low n && nat_le n high

abbrev pub int_in_range : ℤ → ℤ → ℤ → Bool
int_in_range low high z = int_le low z && int_le z high

-- ---- rules

abbrev pub count_keeps : ℕ → CountRule → Bool
count_keeps n (count.AtLeast low) = nat_le low n
count_keeps n (count.AtMost high) = nat_le n high
count_keeps n (count.Range low high) = in_range low high n
count_keeps n (count.NotAbove other its) = nat_le n its
count_keeps n (count.BelowThat other its) = nat_lt n its
count_keeps n (count.TwiceNotAbove other its) = nat_le (2 * n) its
count_keeps n (count.SumNotAbove second its third highest) = nat_le (n + its) highest

abbrev pub score_keeps : ℤ → ScoreRule → Bool
score_keeps z (score.Below high) = int_lt z high
score_keeps z (score.Range low high) = int_in_range low high z
score_keeps z (score.NotAbove other its) = int_le z its

-- the value keeps its rule
abbrev pub holds : Check → Bool
holds (Count parameter value rule) = count_keeps value rule
holds (Score parameter value rule) = score_keeps value rule

-- the first check that fails
abbrev pub first_broken : List Check → Option Check
first_broken = find (λ check. not (holds check))

-- the rules of a reward's weight, a penalty's weight, a factor and a cap
abbrev pub reward : ScoreRule
reward = score.Range (pos 0) heaviest

abbrev pub penalty : ScoreRule
penalty = score.Range (neg_ℤ heaviest) (pos 0)

abbrev pub fraction : CountRule
fraction = count.Range 0 highest_factor

abbrev pub cap : CountRule
cap = count.Range 0 highest_cap

-- the rules of a time above 0 and of a backoff
abbrev pub some_time : CountRule
some_time = count.Range 1 longest_time

abbrev pub backoff : CountRule
backoff = count.Range 1 longest_backoff

-- ---- the four groups, each in the order of its keys

abbrev pub degree_checks : Degrees → List Check
degree_checks x =
    Count of.D x.d (count.NotAbove of.DHigh x.d_high)
    ∷ Count of.DLow x.d_low (count.AtLeast 1)
    ∷ Count of.DLow x.d_low (count.NotAbove of.D x.d)
    ∷ Count of.DHigh x.d_high (count.AtMost highest_degree)
    ∷ Count of.DScore x.d_score (count.SumNotAbove of.DOut x.d_out of.D x.d)
    ∷ Count of.DOut x.d_out (count.BelowThat of.DLow x.d_low)
    ∷ Count of.DOut x.d_out (count.TwiceNotAbove of.D x.d)
    ∷ Count of.DLazy x.d_lazy (count.AtMost highest_degree)
    ∷ []

abbrev pub threshold_checks : Thresholds → List Check
threshold_checks x =
    Score of.GossipThreshold x.gossip_threshold (score.Below (pos 0))
    ∷ Score of.PublishThreshold x.publish_threshold (score.NotAbove of.GossipThreshold x.gossip_threshold)
    ∷ Score of.GraylistThreshold x.graylist_threshold (score.NotAbove of.PublishThreshold x.publish_threshold)
    ∷ Count of.OpportunisticThreshold x.opportunistic_threshold cap
    ∷ []

abbrev pub factor_checks : Factors → List Check
factor_checks x =
    Count of.GossipFactor x.gossip_factor (count.AtMost highest_factor)
    ∷ Count of.P7Decay x.p7_decay fraction
    ∷ Score of.AppSpecificWeight x.w5 reward
    ∷ Score of.IpColocationFactorWeight x.w6 penalty
    ∷ Score of.BehaviourPenaltyWeight x.w7 penalty
    ∷ Count of.TopicCap x.topic_cap cap
    ∷ Count of.DecayToZero x.decay_to_zero cap
    ∷ Count of.P6Threshold x.p6_threshold (count.Range 1 most_at_an_address)
    ∷ []

abbrev pub timing_checks : Timing → List Check
timing_checks x =
    Count of.HeartbeatMs x.heartbeat_ms some_time
    ∷ Count of.DecayMs x.decay_ms some_time
    ∷ Count of.FanoutTtlMs x.fanout_ttl_ms some_time
    ∷ Count of.SeenTtlMs x.seen_ttl_ms some_time
    ∷ Count of.IwantFollowupMs x.iwant_followup_ms some_time
    ∷ Count of.PruneBackoffS x.prune_backoff_s backoff
    ∷ Count of.UnsubscribeBackoffS x.unsubscribe_backoff_s backoff
    ∷ Count of.McacheLen x.mcache_len (count.Range 1 longest_memory)
    ∷ Count of.McacheGossip x.mcache_gossip (count.AtLeast 1)
    ∷ Count of.McacheGossip x.mcache_gossip (count.NotAbove of.McacheLen x.mcache_len)
    ∷ Count of.OpportunisticTicks x.opportunistic_ticks (count.Range 1 most_ticks)
    ∷ Count of.OpportunisticPeers x.opportunistic_peers (count.AtMost highest_degree)
    ∷ Count of.MaxIhave x.max_ihave (count.Range 1 most_offers)
    ∷ Count of.MaxIhaveIds x.max_ihave_ids (count.Range 1 most_identifiers)
    ∷ Count of.GossipRetransmission x.gossip_retransmission (count.Range 1 most_retransmissions)
    ∷ []

-- the checks of the topic at a place
abbrev pub topic_factor_checks : ℕ → TopicFactors → List Check
topic_factor_checks place x =
    Score (of.OfTopic place topic.TopicWeight) x.topic_weight reward
    ∷ Score (of.OfTopic place topic.TimeInMeshWeight) x.w1 reward
    ∷ Score (of.OfTopic place topic.FirstMessageDeliveriesWeight) x.w2 reward
    ∷ Score (of.OfTopic place topic.MeshMessageDeliveriesWeight) x.w3 penalty
    ∷ Score (of.OfTopic place topic.MeshFailurePenaltyWeight) x.w3b penalty
    ∷ Score (of.OfTopic place topic.InvalidMessageDeliveriesWeight) x.w4 penalty
    ∷ Count (of.OfTopic place topic.P2Decay) x.p2_decay fraction
    ∷ Count (of.OfTopic place topic.P3Decay) x.p3_decay fraction
    ∷ Count (of.OfTopic place topic.P3bDecay) x.p3b_decay fraction
    ∷ Count (of.OfTopic place topic.P4Decay) x.p4_decay fraction
    ∷ Count (of.OfTopic place topic.P1Cap) x.p1_cap cap
    ∷ Count (of.OfTopic place topic.P2Cap) x.p2_cap cap
    ∷ Count (of.OfTopic place topic.P3Cap) x.p3_cap cap
    ∷ Count (of.OfTopic place topic.P3Threshold) x.p3_threshold cap
    ∷ []

abbrev pub topic_timing_checks : ℕ → TopicTiming → List Check
topic_timing_checks place x =
    Count (of.OfTopic place topic.P1QuantumMs) x.p1_quantum_ms some_time
    ∷ Count (of.OfTopic place topic.P3WindowMs) x.p3_window_ms (count.AtMost longest_time)
    ∷ Count (of.OfTopic place topic.P3ActivationMs) x.p3_activation_ms (count.AtMost longest_time)
    ∷ []

-- the checks of each topic, where the first one has this place
abbrev pub each_topic_from : (ℕ → TopicParams → List Check) → ℕ → List (Topic × TopicParams) → List Check
each_topic_from checks place [] = []
each_topic_from checks place (one ∷ topics) = checks place one.1 ++ each_topic_from checks (place + 1) topics

-- the checks of a peer's own factors, and then of the factors of each of its topics
abbrev pub all_factor_checks : Params → List Check
all_factor_checks p = factor_checks p.factors ++ each_topic_from (λ place one. topic_factor_checks place one.factors) 0 p.topics

abbrev pub all_timing_checks : Params → List Check
all_timing_checks p = timing_checks p.timing ++ each_topic_from (λ place one. topic_timing_checks place one.timing) 0 p.topics

-- ---- which fault is first

-- the fault of the first check that fails, or the given result if all hold
abbrev pub unless_broken : (Check → ParamFault) → Option Check → Result Params ParamFault → Result Params ParamFault
unless_broken fault (Some check) otherwise = Err (fault check)
unless_broken fault None otherwise = otherwise

-- the parameters if all checks hold, or the fault of the first that fails, group by group
abbrev pub checked : Params → Result Params ParamFault
checked p =
    unless_broken faults.Degrees (first_broken (degree_checks p.degrees))
    (unless_broken faults.Thresholds (first_broken (threshold_checks p.thresholds))
    (unless_broken faults.Factor (first_broken (all_factor_checks p))
    (unless_broken faults.Timing (first_broken (all_timing_checks p)) (Ok p))))

abbrev pub number_of : ParamFault → ℕ
number_of (faults.Degrees check) = 1
number_of (faults.Thresholds check) = 2
number_of (faults.Factor check) = 3
number_of (faults.Timing check) = 4
