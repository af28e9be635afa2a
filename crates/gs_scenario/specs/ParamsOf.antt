-- The parameters that a scenario gives, or its first refusal: the keys of each table in their order.
use Rattle.std.specs.Prelude.{ℕ, ◌++◌, Bool, codes, List, [], ◌∷◌, Result, Ok, Err, ℤ, pos, neg_ℤ}
use Rattle.gs_params.specs.Params.{checked, default_degrees, default_thresholds, default_factors, default_timing, default_flood_publish}
use Rattle.gs_base.specs.declared.names.Topic.{Topic}
use Rattle.gs_params.specs.declared.params.Degrees.{Degrees}
use Rattle.gs_params.specs.declared.params.Thresholds.{Thresholds}
use Rattle.gs_params.specs.declared.params.Factors.{Factors}
use Rattle.gs_params.specs.declared.params.Timing.{Timing}
use Rattle.gs_params.specs.declared.params.Params.{Params}
use Rattle.gs_params.specs.declared.topic_params.TopicParams.{TopicParams}
use Rattle.gs_params.specs.declared.param_fault.ParamFault.{ParamFault}
use Rattle.gs_scenario.specs.declared.fault.ScenarioFault.{ScenarioFault}
use Rattle.gs_scenario.specs.declared.fault.ScenarioFault.TheVariants as faults
use Rattle.gs_scenario.specs.declared.scenario.tables.TableKind.TheVariants as kinds
use Rattle.gs_scenario.specs.declared.scenario.params.Counts.{Counts}
use Rattle.gs_scenario.specs.declared.scenario.params.Shared.{Shared}
use Rattle.gs_scenario.specs.declared.scenario.params.Times.{Times}
use Rattle.gs_scenario.specs.Keys.{Key, Section, ◌>>=◌, optional, read_key, only}
use Rattle.gs_scenario.specs.Kinds.{whole_number, signed_number, truth_value, hex_text, list_of_each, optional_multiple}

-- ---- kinds of keys

-- the highest number that a parameter may have; the lowest is its negative
abbrev pub highest_number : ℕ
highest_number = 1_000_000_000_000

-- a count, or a number of milliseconds, seconds or millionths
abbrev pub count_key : List ℕ → ℕ → Key ℕ
count_key name default = optional name (whole_number 0 highest_number) default

-- a number of milliseconds that is a multiple of a step
abbrev pub multiple_key : ℕ → List ℕ → ℕ → Key ℕ
multiple_key step name default = optional_multiple step name (whole_number 0 highest_number) default

-- the weight of a reward, in millionths
abbrev pub reward_key : List ℕ → ℤ → Key ℤ
reward_key name default = optional name (signed_number (pos 0) (pos highest_number)) default

-- millionths of either sign
abbrev pub score_key : List ℕ → ℤ → Key ℤ
score_key name default = optional name (signed_number (neg_ℤ (pos highest_number)) (pos highest_number)) default

-- a list of hex texts, as the bytes for which they stand; it is empty where the key is missing
abbrev pub prefixes_key : List ℕ → Key (List (List ℕ))
prefixes_key name = optional name (list_of_each hex_text) []

-- ---- degrees

abbrev pub d_key : Key ℕ
d_key = count_key (codes "d") default_degrees.d

abbrev pub d_low_key : Key ℕ
d_low_key = count_key (codes "d_low") default_degrees.d_low

abbrev pub d_high_key : Key ℕ
d_high_key = count_key (codes "d_high") default_degrees.d_high

abbrev pub d_score_key : Key ℕ
d_score_key = count_key (codes "d_score") default_degrees.d_score

abbrev pub d_out_key : Key ℕ
d_out_key = count_key (codes "d_out") default_degrees.d_out

abbrev pub d_lazy_key : Key ℕ
d_lazy_key = count_key (codes "d_lazy") default_degrees.d_lazy

abbrev pub degree_names : List (List ℕ)
degree_names =
    d_key.name ∷ d_low_key.name ∷ d_high_key.name ∷ d_score_key.name ∷ d_out_key.name ∷ d_lazy_key.name ∷ []

unfoldable pub degrees_in : Section → Result Degrees ScenarioFault
degrees_in section = do
  d ← read_key section d_key
  d_low ← read_key section d_low_key
  d_high ← read_key section d_high_key
  d_score ← read_key section d_score_key
  d_out ← read_key section d_out_key
  d_lazy ← read_key section d_lazy_key
  Ok (record { d = d; d_low = d_low; d_high = d_high; d_score = d_score; d_out = d_out; d_lazy = d_lazy })

-- ---- thresholds

abbrev pub gossip_threshold_key : Key ℤ
gossip_threshold_key = score_key (codes "gossip_threshold") default_thresholds.gossip_threshold

abbrev pub publish_threshold_key : Key ℤ
publish_threshold_key = score_key (codes "publish_threshold") default_thresholds.publish_threshold

abbrev pub graylist_threshold_key : Key ℤ
graylist_threshold_key = score_key (codes "graylist_threshold") default_thresholds.graylist_threshold

abbrev pub opportunistic_threshold_key : Key ℕ
opportunistic_threshold_key = count_key (codes "opportunistic_threshold") default_thresholds.opportunistic_threshold

abbrev pub threshold_names : List (List ℕ)
threshold_names =
    gossip_threshold_key.name
    ∷ publish_threshold_key.name
    ∷ graylist_threshold_key.name
    ∷ opportunistic_threshold_key.name
    ∷ []

unfoldable pub thresholds_in : Section → Result Thresholds ScenarioFault
thresholds_in section = do
  gossip_threshold ← read_key section gossip_threshold_key
  publish_threshold ← read_key section publish_threshold_key
  graylist_threshold ← read_key section graylist_threshold_key
  opportunistic_threshold ← read_key section opportunistic_threshold_key
  Ok (record {
    gossip_threshold = gossip_threshold;
    publish_threshold = publish_threshold;
    graylist_threshold = graylist_threshold;
    opportunistic_threshold = opportunistic_threshold;
  })

-- ---- factors

abbrev pub gossip_factor_key : Key ℕ
gossip_factor_key = count_key (codes "gossip_factor") default_factors.gossip_factor

abbrev pub p7_decay_key : Key ℕ
p7_decay_key = count_key (codes "p7_decay") default_factors.p7_decay

abbrev pub w5_key : Key ℤ
w5_key = reward_key (codes "w5") default_factors.w5

abbrev pub w6_key : Key ℤ
w6_key = score_key (codes "w6") default_factors.w6

abbrev pub w7_key : Key ℤ
w7_key = score_key (codes "w7") default_factors.w7

abbrev pub topic_cap_key : Key ℕ
topic_cap_key = count_key (codes "topic_cap") default_factors.topic_cap

abbrev pub decay_to_zero_key : Key ℕ
decay_to_zero_key = count_key (codes "decay_to_zero") default_factors.decay_to_zero

abbrev pub p6_threshold_key : Key ℕ
p6_threshold_key = count_key (codes "p6_threshold") default_factors.p6_threshold

abbrev pub factor_names : List (List ℕ)
factor_names =
    gossip_factor_key.name
    ∷ p7_decay_key.name
    ∷ w5_key.name
    ∷ w6_key.name
    ∷ w7_key.name
    ∷ topic_cap_key.name
    ∷ decay_to_zero_key.name
    ∷ p6_threshold_key.name
    ∷ []

unfoldable pub factors_in : Section → Result Factors ScenarioFault
factors_in section = do
  gossip_factor ← read_key section gossip_factor_key
  p7_decay ← read_key section p7_decay_key
  w5 ← read_key section w5_key
  w6 ← read_key section w6_key
  w7 ← read_key section w7_key
  topic_cap ← read_key section topic_cap_key
  decay_to_zero ← read_key section decay_to_zero_key
  p6_threshold ← read_key section p6_threshold_key
  Ok (record {
    gossip_factor = gossip_factor;
    p7_decay = p7_decay;
    w5 = w5;
    w6 = w6;
    w7 = w7;
    topic_cap = topic_cap;
    decay_to_zero = decay_to_zero;
    p6_threshold = p6_threshold;
  })

-- ---- timing: two of its times are whole rounds

abbrev pub heartbeat_ms_key : ℕ → Key ℕ
heartbeat_ms_key round_ms = multiple_key round_ms (codes "heartbeat_ms") default_timing.heartbeat_ms

abbrev pub decay_ms_key : ℕ → Key ℕ
decay_ms_key round_ms = multiple_key round_ms (codes "decay_ms") default_timing.decay_ms

abbrev pub fanout_ttl_ms_key : Key ℕ
fanout_ttl_ms_key = count_key (codes "fanout_ttl_ms") default_timing.fanout_ttl_ms

abbrev pub seen_ttl_ms_key : Key ℕ
seen_ttl_ms_key = count_key (codes "seen_ttl_ms") default_timing.seen_ttl_ms

abbrev pub iwant_followup_ms_key : Key ℕ
iwant_followup_ms_key = count_key (codes "iwant_followup_ms") default_timing.iwant_followup_ms

abbrev pub prune_backoff_s_key : Key ℕ
prune_backoff_s_key = count_key (codes "prune_backoff_s") default_timing.prune_backoff_s

abbrev pub unsubscribe_backoff_s_key : Key ℕ
unsubscribe_backoff_s_key = count_key (codes "unsubscribe_backoff_s") default_timing.unsubscribe_backoff_s

abbrev pub mcache_len_key : Key ℕ
mcache_len_key = count_key (codes "mcache_len") default_timing.mcache_len

abbrev pub mcache_gossip_key : Key ℕ
mcache_gossip_key = count_key (codes "mcache_gossip") default_timing.mcache_gossip

abbrev pub opportunistic_ticks_key : Key ℕ
opportunistic_ticks_key = count_key (codes "opportunistic_ticks") default_timing.opportunistic_ticks

abbrev pub opportunistic_peers_key : Key ℕ
opportunistic_peers_key = count_key (codes "opportunistic_peers") default_timing.opportunistic_peers

abbrev pub max_ihave_key : Key ℕ
max_ihave_key = count_key (codes "max_ihave") default_timing.max_ihave

abbrev pub max_ihave_ids_key : Key ℕ
max_ihave_ids_key = count_key (codes "max_ihave_ids") default_timing.max_ihave_ids

abbrev pub gossip_retransmission_key : Key ℕ
gossip_retransmission_key = count_key (codes "gossip_retransmission") default_timing.gossip_retransmission

abbrev pub timing_names : List (List ℕ)
timing_names =
    (heartbeat_ms_key 1).name
    ∷ (decay_ms_key 1).name
    ∷ fanout_ttl_ms_key.name
    ∷ seen_ttl_ms_key.name
    ∷ iwant_followup_ms_key.name
    ∷ prune_backoff_s_key.name
    ∷ unsubscribe_backoff_s_key.name
    ∷ mcache_len_key.name
    ∷ mcache_gossip_key.name
    ∷ opportunistic_ticks_key.name
    ∷ opportunistic_peers_key.name
    ∷ max_ihave_key.name
    ∷ max_ihave_ids_key.name
    ∷ gossip_retransmission_key.name
    ∷ []

unfoldable pub times_in : ℕ → Section → Result Times ScenarioFault
times_in round_ms section = do
  heartbeat_ms ← read_key section (heartbeat_ms_key round_ms)
  decay_ms ← read_key section (decay_ms_key round_ms)
  fanout_ttl_ms ← read_key section fanout_ttl_ms_key
  seen_ttl_ms ← read_key section seen_ttl_ms_key
  iwant_followup_ms ← read_key section iwant_followup_ms_key
  prune_backoff_s ← read_key section prune_backoff_s_key
  unsubscribe_backoff_s ← read_key section unsubscribe_backoff_s_key
  Ok (record {
    heartbeat_ms = heartbeat_ms;
    decay_ms = decay_ms;
    fanout_ttl_ms = fanout_ttl_ms;
    seen_ttl_ms = seen_ttl_ms;
    iwant_followup_ms = iwant_followup_ms;
    prune_backoff_s = prune_backoff_s;
    unsubscribe_backoff_s = unsubscribe_backoff_s;
  })

unfoldable pub counts_in : Section → Result Counts ScenarioFault
counts_in section = do
  mcache_len ← read_key section mcache_len_key
  mcache_gossip ← read_key section mcache_gossip_key
  opportunistic_ticks ← read_key section opportunistic_ticks_key
  opportunistic_peers ← read_key section opportunistic_peers_key
  max_ihave ← read_key section max_ihave_key
  max_ihave_ids ← read_key section max_ihave_ids_key
  gossip_retransmission ← read_key section gossip_retransmission_key
  Ok (record {
    mcache_len = mcache_len;
    mcache_gossip = mcache_gossip;
    opportunistic_ticks = opportunistic_ticks;
    opportunistic_peers = opportunistic_peers;
    max_ihave = max_ihave;
    max_ihave_ids = max_ihave_ids;
    gossip_retransmission = gossip_retransmission;
  })

-- times and counts, as one record
abbrev pub timing_of : Times → Counts → Timing
timing_of times counts = record {
  heartbeat_ms = times.heartbeat_ms;
  decay_ms = times.decay_ms;
  fanout_ttl_ms = times.fanout_ttl_ms;
  seen_ttl_ms = times.seen_ttl_ms;
  iwant_followup_ms = times.iwant_followup_ms;
  prune_backoff_s = times.prune_backoff_s;
  unsubscribe_backoff_s = times.unsubscribe_backoff_s;
  mcache_len = counts.mcache_len;
  mcache_gossip = counts.mcache_gossip;
  opportunistic_ticks = counts.opportunistic_ticks;
  opportunistic_peers = counts.opportunistic_peers;
  max_ihave = counts.max_ihave;
  max_ihave_ids = counts.max_ihave_ids;
  gossip_retransmission = counts.gossip_retransmission;
}

unfoldable pub timing_in : ℕ → Section → Result Timing ScenarioFault
timing_in round_ms section = do
  times ← times_in round_ms section
  counts ← counts_in section
  Ok (timing_of times counts)

-- ---- the parameters that all topics share

abbrev pub flood_publish_key : Key Bool
flood_publish_key = optional (codes "flood_publish") truth_value default_flood_publish

abbrev pub shared_names : List (List ℕ)
shared_names = degree_names ++ threshold_names ++ factor_names ++ timing_names ++ flood_publish_key.name ∷ []

unfoldable pub shared_in : ℕ → Section → Result Shared ScenarioFault
shared_in round_ms section = do
  _ ← only kinds.Params shared_names section
  degrees ← degrees_in section
  thresholds ← thresholds_in section
  factors ← factors_in section
  timing ← timing_in round_ms section
  flood_publish ← read_key section flood_publish_key
  Ok (record {
    degrees = degrees;
    thresholds = thresholds;
    factors = factors;
    timing = timing;
    flood_publish = flood_publish;
  })

-- ---- all of them

abbrev pub with_topics : Shared → List (Topic × TopicParams) → Params
with_topics shared topics = record {
  degrees = shared.degrees;
  thresholds = shared.thresholds;
  factors = shared.factors;
  timing = shared.timing;
  flood_publish = shared.flood_publish;
  topics = topics;
}

-- the parameters as checked, or the refusal of the check's fault
abbrev pub or_refuse_params : Result Params ParamFault → Result Params ScenarioFault
or_refuse_params (Ok params) = Ok params
or_refuse_params (Err fault) = Err (faults.Params fault)

unfoldable pub params_of : Shared → List (Topic × TopicParams) → Result Params ScenarioFault
params_of shared topics = or_refuse_params (checked (with_topics shared topics))
