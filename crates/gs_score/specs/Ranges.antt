-- The ranges in which the rules of a topic are.
use Rattle.std.specs.Prelude.{◌≤◌, ℕ}
use Rattle.gs_params.specs.Params.{IsCap, TopicFactorsAreInRange, TopicTimingIsInRange}
use Rattle.gs_score.specs.declared.rules.TopicRules.{TopicRules}
use Rattle.gs_score.specs.declared.standing.Kind.{Kind}
use Rattle.gs_score.specs.declared.standing.Standing.{Standing}
use Rattle.gs_score.specs.Standings.{stored}

pub record RulesAreInRange (r : TopicRules) : Type 0 where
  pub factors : TopicFactorsAreInRange r.factors
  pub timing : TopicTimingIsInRange r.timing
  pub decay_to_zero : IsCap r.decay_to_zero

-- no counter was decayed past this number of decays
abbrev pub IsUpTo : ℕ → Standing → Type 0
IsUpTo decays s = (kind : Kind) → (stored kind s).decays ≤ decays
