-- The defaults of parameters, and the ranges that they must be in.
use Rattle.std.specs.Prelude.{◌≤◌, ◌<◌, ◌+◌, ◌*◌, ◌≤ℤ◌, ◌<ℤ◌, ℕ, Bool, true, [], ℤ, pos, neg_ℤ}
use Rattle.std.specs.List.{All}
use Rattle.gs_base.specs.declared.names.Topic.{Topic}
use Rattle.gs_params.specs.declared.params.Degrees.{Degrees}
use Rattle.gs_params.specs.declared.params.Thresholds.{Thresholds}
use Rattle.gs_params.specs.declared.params.Factors.{Factors}
use Rattle.gs_params.specs.declared.params.Timing.{Timing}
use Rattle.gs_params.specs.declared.params.Params.{Params}
use Rattle.gs_params.specs.declared.topic_params.TopicFactors.{TopicFactors}
use Rattle.gs_params.specs.declared.topic_params.TopicTiming.{TopicTiming}
use Rattle.gs_params.specs.declared.topic_params.TopicParams.{TopicParams}
pub use Rattle.gs_params.specs.Checks.{checked, heaviest, highest_cap, highest_degree, highest_factor, in_range, int_in_range}
pub use Rattle.gs_params.specs.Checks.{longest_memory, longest_time, most_at_an_address}
use Rattle.gs_base.specs.Rpcs.{longest_backoff, most_identifiers}
pub use Rattle.gs_params.specs.Checks.{most_offers, most_retransmissions, most_ticks, number_of}

-- ---- the defaults

-- in neighbours
abbrev pub default_degrees : Degrees
default_degrees = record { d = 6; d_low = 4; d_high = 12; d_score = 4; d_out = 2; d_lazy = 6 }

-- in millionths
abbrev pub default_thresholds : Thresholds
default_thresholds = record {
  gossip_threshold = neg_ℤ (pos 10_000_000);
  publish_threshold = neg_ℤ (pos 50_000_000);
  graylist_threshold = neg_ℤ (pos 80_000_000);
  opportunistic_threshold = 1_000_000;
}

-- in millionths, and whole neighbours at one address
abbrev pub default_factors : Factors
default_factors = record {
  gossip_factor = 250_000;
  p7_decay = 900_000;
  w5 = pos 1_000_000;
  w6 = neg_ℤ (pos 5_000_000);
  w7 = neg_ℤ (pos 10_000_000);
  topic_cap = 0;
  decay_to_zero = 10_000;
  p6_threshold = 1;
}

-- in milliseconds, backoffs in seconds, and numbers of heartbeats, neighbours and messages
abbrev pub default_timing : Timing
default_timing = record {
  heartbeat_ms = 1_000;
  decay_ms = 1_000;
  fanout_ttl_ms = 60_000;
  seen_ttl_ms = 120_000;
  iwant_followup_ms = 3_000;
  prune_backoff_s = 60;
  unsubscribe_backoff_s = 10;
  mcache_len = 5;
  mcache_gossip = 3;
  opportunistic_ticks = 60;
  opportunistic_peers = 2;
  max_ihave = 10;
  max_ihave_ids = 5_000;
  gossip_retransmission = 3;
}

-- the peer's own message goes to all neighbours on its topic that may get it
abbrev pub default_flood_publish : Bool
default_flood_publish = true

abbrev pub default_params : Params
default_params = record {
  degrees = default_degrees;
  thresholds = default_thresholds;
  factors = default_factors;
  timing = default_timing;
  flood_publish = default_flood_publish;
  topics = [];
}

-- in millionths
abbrev pub default_topic_factors : TopicFactors
default_topic_factors = record {
  topic_weight = pos 1_000_000;
  w1 = pos 0;
  w2 = pos 0;
  w3 = pos 0;
  w3b = pos 0;
  w4 = pos 0;
  p2_decay = 500_000;
  p3_decay = 500_000;
  p3b_decay = 500_000;
  p4_decay = 500_000;
  p1_cap = 100_000_000;
  p2_cap = 100_000_000;
  p3_cap = 100_000_000;
  p3_threshold = 0;
}

-- in milliseconds
abbrev pub default_topic_timing : TopicTiming
default_topic_timing = record { p1_quantum_ms = 1_000; p3_window_ms = 10; p3_activation_ms = 5_000 }

abbrev pub default_topic_params : TopicParams
default_topic_params = record {
  factors = default_topic_factors;
  timing = default_topic_timing;
  reject = [];
  ignore = [];
}

-- ---- what is known about checked parameters

abbrev pub IsReward : ℤ → Type 0
IsReward z = (pos 0 ≤ℤ z) × (z ≤ℤ heaviest)

abbrev pub IsPenalty : ℤ → Type 0
IsPenalty z = (neg_ℤ heaviest ≤ℤ z) × (z ≤ℤ pos 0)

abbrev pub IsFraction : ℕ → Type 0
IsFraction n = n ≤ highest_factor

abbrev pub IsCap : ℕ → Type 0
IsCap n = n ≤ highest_cap

pub record DegreesAreInRange (x : Degrees) : Type 0 where
  pub some : 1 ≤ x.d_low
  pub low : x.d_low ≤ x.d
  pub high : x.d ≤ x.d_high
  pub few : x.d_high ≤ highest_degree
  pub outbound : x.d_out < x.d_low
  pub half : 2 * x.d_out ≤ x.d
  pub best : x.d_score + x.d_out ≤ x.d
  pub lazy : x.d_lazy ≤ highest_degree

pub record ThresholdsAreInRange (x : Thresholds) : Type 0 where
  pub graylist : x.graylist_threshold ≤ℤ x.publish_threshold
  pub publish : x.publish_threshold ≤ℤ x.gossip_threshold
  pub gossip : x.gossip_threshold <ℤ pos 0
  pub opportunistic : IsCap x.opportunistic_threshold

pub record FactorsAreInRange (x : Factors) : Type 0 where
  pub gossip_factor : x.gossip_factor ≤ highest_factor
  pub p7_decay : IsFraction x.p7_decay
  pub w5 : IsReward x.w5
  pub w6 : IsPenalty x.w6
  pub w7 : IsPenalty x.w7
  pub topic_cap : IsCap x.topic_cap
  pub decay_to_zero : IsCap x.decay_to_zero
  pub p6_threshold : (1 ≤ x.p6_threshold) × (x.p6_threshold ≤ most_at_an_address)

pub record TimingIsInRange (x : Timing) : Type 0 where
  pub heartbeat : (1 ≤ x.heartbeat_ms) × (x.heartbeat_ms ≤ longest_time)
  pub decay : (1 ≤ x.decay_ms) × (x.decay_ms ≤ longest_time)
  pub fanout_ttl : (1 ≤ x.fanout_ttl_ms) × (x.fanout_ttl_ms ≤ longest_time)
  pub seen_ttl : (1 ≤ x.seen_ttl_ms) × (x.seen_ttl_ms ≤ longest_time)
  pub iwant_followup : (1 ≤ x.iwant_followup_ms) × (x.iwant_followup_ms ≤ longest_time)
  pub prune_backoff : (1 ≤ x.prune_backoff_s) × (x.prune_backoff_s ≤ longest_backoff)
  pub unsubscribe_backoff : (1 ≤ x.unsubscribe_backoff_s) × (x.unsubscribe_backoff_s ≤ longest_backoff)
  pub mcache_gossip : (1 ≤ x.mcache_gossip) × (x.mcache_gossip ≤ x.mcache_len)
  pub mcache_len : x.mcache_len ≤ longest_memory
  pub opportunistic_ticks : (1 ≤ x.opportunistic_ticks) × (x.opportunistic_ticks ≤ most_ticks)
  pub opportunistic_peers : x.opportunistic_peers ≤ highest_degree
  pub max_ihave : (1 ≤ x.max_ihave) × (x.max_ihave ≤ most_offers)
  pub max_ihave_ids : (1 ≤ x.max_ihave_ids) × (x.max_ihave_ids ≤ most_identifiers)
  pub gossip_retransmission : (1 ≤ x.gossip_retransmission) × (x.gossip_retransmission ≤ most_retransmissions)

pub record TopicFactorsAreInRange (x : TopicFactors) : Type 0 where
  pub topic_weight : IsReward x.topic_weight
  pub w1 : IsReward x.w1
  pub w2 : IsReward x.w2
  pub w3 : IsPenalty x.w3
  pub w3b : IsPenalty x.w3b
  pub w4 : IsPenalty x.w4
  pub p2_decay : IsFraction x.p2_decay
  pub p3_decay : IsFraction x.p3_decay
  pub p3b_decay : IsFraction x.p3b_decay
  pub p4_decay : IsFraction x.p4_decay
  pub p1_cap : IsCap x.p1_cap
  pub p2_cap : IsCap x.p2_cap
  pub p3_cap : IsCap x.p3_cap
  pub p3_threshold : IsCap x.p3_threshold

pub record TopicTimingIsInRange (x : TopicTiming) : Type 0 where
  pub p1_quantum : (1 ≤ x.p1_quantum_ms) × (x.p1_quantum_ms ≤ longest_time)
  pub p3_window : x.p3_window_ms ≤ longest_time
  pub p3_activation : x.p3_activation_ms ≤ longest_time

pub record AreInRange (p : Params) : Type 0 where
  pub degrees : DegreesAreInRange p.degrees
  pub thresholds : ThresholdsAreInRange p.thresholds
  pub factors : FactorsAreInRange p.factors
  pub timing : TimingIsInRange p.timing
  pub topic_factors : All (λ (topic : Topic × TopicParams). TopicFactorsAreInRange topic.1.factors) p.topics
  pub topic_timing : All (λ (topic : Topic × TopicParams). TopicTimingIsInRange topic.1.timing) p.topics
