-- What is known about a neighbour, on all topics.
use Rattle.std.specs.Prelude.{◌≡◌, ℕ, suc, ℤ, pos, ◌+ℤ◌, Bool, false, ◌||◌, if◌then◌else◌, List, [], ◌∷◌, length, map}
use Rattle.std.specs.Prelude.{is_some}
use Rattle.std.specs.List.{list_any, IsDistinct}
use Rattle.std.specs.Map.{lookup}
use Rattle.std.specs.Option.{unwrap_or}
use Rattle.gs_base.specs.declared.names.Topic.{Topic}
use Rattle.gs_base.specs.Names.{same_topic}
use Rattle.gs_params.specs.declared.params.Params.{Params}
use Rattle.gs_params.specs.declared.topic_params.TopicParams.{TopicParams}
use Rattle.gs_params.specs.Params.{default_topic_params}
use Rattle.gs_score.specs.declared.counter.Decay.{Decay}
use Rattle.gs_score.specs.declared.rules.TopicRules.{TopicRules}
use Rattle.gs_score.specs.declared.standing.Standing.{Standing}
use Rattle.gs_score.specs.Standings.{Held, fresh, held, nothing_held}
use Rattle.gs_score.specs.Formula.{topic_part}

-- ---- how topics are scored

-- the first parameters of a topic count, and a topic without any has the defaults
abbrev pub params_in : List (Topic × TopicParams) → Topic → TopicParams
params_in topics t = unwrap_or (lookup (same_topic t) topics) default_topic_params

abbrev pub rules_of : Params → Topic → TopicRules
rules_of params t = record {
  factors = (params_in params.topics t).factors;
  timing = (params_in params.topics t).timing;
  decay_to_zero = params.factors.decay_to_zero;
}

-- how misbehaviour decays
abbrev pub misbehaviour_decay : Params → Decay
misbehaviour_decay params = record { factor = params.factors.p7_decay; floor = params.factors.decay_to_zero }

-- ---- what a neighbour has on topics

abbrev pub standing_in : List (Topic × Standing) → Topic → Standing
standing_in topics t = unwrap_or (lookup (same_topic t) topics) fresh

abbrev pub has_topic : List (Topic × Standing) → Topic → Bool
has_topic topics t = is_some (lookup (same_topic t) topics)

-- it now has something on this topic, and still on the earlier ones
pub record AddsTopic (old new : List (Topic × Standing)) (t : Topic) : Type 0 where
  pub topics : (u : Topic) → has_topic new u ≡ (same_topic t u || has_topic old u)
  pub number : length new ≡ (if has_topic old t then length old else suc (length old))

-- it has something on the same topics as before
pub record KeepsTopics (old new : List (Topic × Standing)) : Type 0 where
  pub topics : (u : Topic) → has_topic new u ≡ has_topic old u
  pub number : length new ≡ length old

-- ---- sums over topics

abbrev pub total : List ℤ → ℤ
total [] = pos 0
total (x ∷ xs) = x +ℤ total xs

-- the sum of the parts of these topics, by what is held on each
abbrev pub topic_sum : Params → ℕ → (Topic → Held) → List Topic → ℤ
topic_sum params now at ts = total (map (λ t. topic_part (rules_of params t) now (at t)) ts)

-- no topic is listed twice, and each topic with something held on it is listed
pub record Covers (at : Topic → Held) (ts : List Topic) : Type 0 where
  pub apart : IsDistinct same_topic ts
  pub all : (t : Topic) → list_any (same_topic t) ts ≡ false → at t ≡ nothing_held

-- what is held on a topic after this number of decays
abbrev pub held_in : Params → ℕ → List (Topic × Standing) → Topic → Held
held_in params decays topics t = held (rules_of params t) decays (standing_in topics t)
