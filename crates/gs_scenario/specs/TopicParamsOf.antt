-- The parameters that a scenario gives a topic, or their first refusal.
use Rattle.std.specs.Prelude.{ℕ, ◌++◌, codes, List, [], ◌∷◌, Result, Ok, ℤ}
use Rattle.gs_params.specs.Params.{default_topic_factors, default_topic_timing}
use Rattle.gs_params.specs.declared.topic_params.TopicFactors.{TopicFactors}
use Rattle.gs_params.specs.declared.topic_params.TopicTiming.{TopicTiming}
use Rattle.gs_params.specs.declared.topic_params.TopicParams.{TopicParams}
use Rattle.gs_scenario.specs.declared.fault.ScenarioFault.{ScenarioFault}
use Rattle.gs_scenario.specs.declared.scenario.topic_params.TopicWeights.{TopicWeights}
use Rattle.gs_scenario.specs.declared.scenario.topic_params.TopicCounters.{TopicCounters}
use Rattle.gs_scenario.specs.Keys.{Key, Section, ◌>>=◌, read_key}
use Rattle.gs_scenario.specs.ParamsOf.{count_key, reward_key, score_key, prefixes_key}

abbrev pub topic_weight_key : Key ℤ
topic_weight_key = reward_key (codes "topic_weight") default_topic_factors.topic_weight

abbrev pub w1_key : Key ℤ
w1_key = reward_key (codes "w1") default_topic_factors.w1

abbrev pub w2_key : Key ℤ
w2_key = reward_key (codes "w2") default_topic_factors.w2

abbrev pub w3_key : Key ℤ
w3_key = score_key (codes "w3") default_topic_factors.w3

abbrev pub w3b_key : Key ℤ
w3b_key = score_key (codes "w3b") default_topic_factors.w3b

abbrev pub w4_key : Key ℤ
w4_key = score_key (codes "w4") default_topic_factors.w4

abbrev pub p2_decay_key : Key ℕ
p2_decay_key = count_key (codes "p2_decay") default_topic_factors.p2_decay

abbrev pub p3_decay_key : Key ℕ
p3_decay_key = count_key (codes "p3_decay") default_topic_factors.p3_decay

abbrev pub p3b_decay_key : Key ℕ
p3b_decay_key = count_key (codes "p3b_decay") default_topic_factors.p3b_decay

abbrev pub p4_decay_key : Key ℕ
p4_decay_key = count_key (codes "p4_decay") default_topic_factors.p4_decay

abbrev pub p1_cap_key : Key ℕ
p1_cap_key = count_key (codes "p1_cap") default_topic_factors.p1_cap

abbrev pub p2_cap_key : Key ℕ
p2_cap_key = count_key (codes "p2_cap") default_topic_factors.p2_cap

abbrev pub p3_cap_key : Key ℕ
p3_cap_key = count_key (codes "p3_cap") default_topic_factors.p3_cap

abbrev pub p3_threshold_key : Key ℕ
p3_threshold_key = count_key (codes "p3_threshold") default_topic_factors.p3_threshold

abbrev pub p1_quantum_ms_key : Key ℕ
p1_quantum_ms_key = count_key (codes "p1_quantum_ms") default_topic_timing.p1_quantum_ms

abbrev pub p3_window_ms_key : Key ℕ
p3_window_ms_key = count_key (codes "p3_window_ms") default_topic_timing.p3_window_ms

abbrev pub p3_activation_ms_key : Key ℕ
p3_activation_ms_key = count_key (codes "p3_activation_ms") default_topic_timing.p3_activation_ms

abbrev pub reject_key : Key (List (List ℕ))
reject_key = prefixes_key (codes "reject")

abbrev pub ignore_key : Key (List (List ℕ))
ignore_key = prefixes_key (codes "ignore")

abbrev pub topic_factor_names : List (List ℕ)
topic_factor_names =
    topic_weight_key.name
    ∷ w1_key.name
    ∷ w2_key.name
    ∷ w3_key.name
    ∷ w3b_key.name
    ∷ w4_key.name
    ∷ p2_decay_key.name
    ∷ p3_decay_key.name
    ∷ p3b_decay_key.name
    ∷ p4_decay_key.name
    ∷ p1_cap_key.name
    ∷ p2_cap_key.name
    ∷ p3_cap_key.name
    ∷ p3_threshold_key.name
    ∷ []

abbrev pub topic_timing_names : List (List ℕ)
topic_timing_names = p1_quantum_ms_key.name ∷ p3_window_ms_key.name ∷ p3_activation_ms_key.name ∷ []

abbrev pub topic_param_names : List (List ℕ)
topic_param_names = topic_factor_names ++ topic_timing_names ++ reject_key.name ∷ ignore_key.name ∷ []

unfoldable pub topic_weights_in : Section → Result TopicWeights ScenarioFault
topic_weights_in section = do
  topic_weight ← read_key section topic_weight_key
  w1 ← read_key section w1_key
  w2 ← read_key section w2_key
  w3 ← read_key section w3_key
  w3b ← read_key section w3b_key
  w4 ← read_key section w4_key
  Ok (record { topic_weight = topic_weight; w1 = w1; w2 = w2; w3 = w3; w3b = w3b; w4 = w4 })

unfoldable pub topic_counters_in : Section → Result TopicCounters ScenarioFault
topic_counters_in section = do
  p2_decay ← read_key section p2_decay_key
  p3_decay ← read_key section p3_decay_key
  p3b_decay ← read_key section p3b_decay_key
  p4_decay ← read_key section p4_decay_key
  p1_cap ← read_key section p1_cap_key
  p2_cap ← read_key section p2_cap_key
  p3_cap ← read_key section p3_cap_key
  p3_threshold ← read_key section p3_threshold_key
  Ok (record {
    p2_decay = p2_decay;
    p3_decay = p3_decay;
    p3b_decay = p3b_decay;
    p4_decay = p4_decay;
    p1_cap = p1_cap;
    p2_cap = p2_cap;
    p3_cap = p3_cap;
    p3_threshold = p3_threshold;
  })

-- the factors of a topic, from their two parts
abbrev pub factors_of : TopicWeights → TopicCounters → TopicFactors
factors_of weights counters = record {
  topic_weight = weights.topic_weight;
  w1 = weights.w1;
  w2 = weights.w2;
  w3 = weights.w3;
  w3b = weights.w3b;
  w4 = weights.w4;
  p2_decay = counters.p2_decay;
  p3_decay = counters.p3_decay;
  p3b_decay = counters.p3b_decay;
  p4_decay = counters.p4_decay;
  p1_cap = counters.p1_cap;
  p2_cap = counters.p2_cap;
  p3_cap = counters.p3_cap;
  p3_threshold = counters.p3_threshold;
}

unfoldable pub topic_factors_in : Section → Result TopicFactors ScenarioFault
topic_factors_in section = do
  weights ← topic_weights_in section
  counters ← topic_counters_in section
  Ok (factors_of weights counters)

unfoldable pub topic_timing_in : Section → Result TopicTiming ScenarioFault
topic_timing_in section = do
  p1_quantum_ms ← read_key section p1_quantum_ms_key
  p3_window_ms ← read_key section p3_window_ms_key
  p3_activation_ms ← read_key section p3_activation_ms_key
  Ok (record { p1_quantum_ms = p1_quantum_ms; p3_window_ms = p3_window_ms; p3_activation_ms = p3_activation_ms })

unfoldable pub topic_params_in : Section → Result TopicParams ScenarioFault
topic_params_in section = do
  factors ← topic_factors_in section
  timing ← topic_timing_in section
  reject ← read_key section reject_key
  ignore ← read_key section ignore_key
  Ok (record { factors = factors; timing = timing; reject = reject; ignore = ignore })
