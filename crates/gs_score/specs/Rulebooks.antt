-- A table of how topics are scored.
use Rattle.std.specs.Prelude.{◌≡◌, ℕ, pos, Bool, false, List}
use Rattle.std.specs.Map.{lookup}
use Rattle.std.specs.Option.{unwrap_or}
use Rattle.gs_base.specs.declared.names.Topic.{Topic}
use Rattle.gs_base.specs.Names.{same_topic}
use Rattle.gs_params.specs.declared.params.Params.{Params}
use Rattle.gs_params.specs.declared.topic_params.TopicParams.{TopicParams}
use Rattle.gs_params.specs.Params.{AreInRange, default_topic_params}
use Rattle.gs_score.specs.declared.rules.TopicRules.{TopicRules}
use Rattle.gs_score.specs.Standings.{Held}
use Rattle.gs_score.specs.Formula.{topic_part}
use Rattle.gs_score.specs.Accounts.{rules_of}

-- the rules of a topic with its own parameters
abbrev pub rules_with : Params → TopicParams → TopicRules
rules_with params found = record {
  factors = found.factors;
  timing = found.timing;
  decay_to_zero = params.factors.decay_to_zero;
}

-- the rules of a topic that the parameters do not name
abbrev pub default_rules : Params → TopicRules
default_rules params = rules_with params default_topic_params

-- a table with the rules of topics, and the rules of all topics that it lacks
abbrev pub TellsRules : Params → List (Topic × TopicRules) → TopicRules → Type 0
TellsRules params rules others = (t : Topic) → unwrap_or (lookup (same_topic t) rules) others ≡ rules_of params t

-- no topic gives anything, whatever is counted on it
abbrev pub NothingWeighs : Params → Type 0
NothingWeighs params = (t : Topic) (now : ℕ) (h : Held) → topic_part (rules_of params t) now h ≡ pos 0

-- what holds for parameters, their table, the rules of all other topics, and whether any topic may weigh
pub record IsRulebook (p : Params) (table : List (Topic × TopicRules)) (others : TopicRules) (any : Bool) : Type 0 where
  pub in_range : AreInRange p
  pub rules : TellsRules p table others
  pub weighs : any ≡ false → NothingWeighs p
