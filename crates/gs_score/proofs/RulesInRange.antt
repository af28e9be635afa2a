-- The rules of each topic are in their ranges where the parameters are.
use Rattle.std.proofs.Common.{Option, Some, None, rules}
use Rattle.std.specs.Map.{lookup}
use Rattle.std.specs.Option.{IfSome, unwrap_or}
use Rattle.std.proofs.lemmas.Map.Entries.{All-lookup}
use Rattle.gs_base.specs.declared.names.Topic.{Topic}
use Rattle.gs_base.specs.Names.{same_topic}
use Rattle.gs_params.specs.declared.params.Params.{Params}
use Rattle.gs_params.specs.declared.topic_params.TopicParams.{TopicParams}
use Rattle.gs_params.specs.Params.{AreInRange, TopicFactorsAreInRange, TopicTimingIsInRange, default_topic_params}
use Rattle.gs_score.specs.Ranges.{RulesAreInRange}
use Rattle.gs_score.specs.Accounts.{rules_of}

pub found_or : {A : Type 0} (P : A → Type 0) (o : Option A) (d : A) → IfSome o P → P d → P (unwrap_or o d)
found_or P None d found default = default
found_or P (Some x) d found default = found

pub rules_in_range : (params : Params) → AreInRange params → (t : Topic) → RulesAreInRange (rules_of params t)
rules_in_range params r t =
    let factors : TopicFactorsAreInRange default_topic_params.factors = search rules in
    let timing : TopicTimingIsInRange default_topic_params.timing = search rules in
    record {
      factors = found_or (λ (p : TopicParams). TopicFactorsAreInRange p.factors) (lookup (same_topic t) params.topics) default_topic_params (All-lookup (λ (p : TopicParams). TopicFactorsAreInRange p.factors) (same_topic t) params.topics r.topic_factors) factors;
      timing = found_or (λ (p : TopicParams). TopicTimingIsInRange p.timing) (lookup (same_topic t) params.topics) default_topic_params (All-lookup (λ (p : TopicParams). TopicTimingIsInRange p.timing) (same_topic t) params.topics r.topic_timing) timing;
      decay_to_zero = r.factors.decay_to_zero;
    }
