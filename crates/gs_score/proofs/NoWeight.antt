-- Under a weight of 0 nothing counts.
use Rattle.std.proofs.Common.{◌≡◌, ℤ, ℕ, pos, to_z, of_z, FitsSigned, ◌*ℤ◌, Bool, true, false, cond, List, [], ◌∷◌, Option, Some, refl, sym, ap, ◌∙◌}
use Rattle.std.specs.List.{AllByRecursion}
use Rattle.std.specs.Map.{lookup}
use Rattle.std.specs.Option.{IfSome}
use Rattle.std.specs.Int.{int_div_euclid, w64}
use Rattle.std.proofs.lemmas.Int.{to_z-of_z}
use Rattle.std.proofs.Math.IntN.{zero-*ℤ}
use Rattle.gs_base.specs.Names.{same_topic}
use Rattle.gs_base.specs.declared.names.Topic.{Topic}
use Rattle.gs_params.specs.Params.{AreInRange, TopicFactorsAreInRange, default_topic_params}
use Rattle.gs_params.specs.declared.params.Params.{Params}
use Rattle.gs_params.specs.declared.topic_params.TopicFactors.{TopicFactors}
use Rattle.gs_params.specs.declared.topic_params.TopicParams.{TopicParams}
use Rattle.gs_score.specs.declared.rules.TopicRules.{TopicRules}
use Rattle.gs_score.specs.Accounts.{rules_of}
use Rattle.gs_score.specs.Formula.{p1, p2, p3, p3b, p4, topic_part, weighed}
use Rattle.gs_score.specs.Millionths.{times}
use Rattle.gs_score.specs.Standings.{Held}
use Rattle.gs_score.proofs.RulesInRange.{found_or, rules_in_range}
use Rattle.gs_score.proofs.Sums.{times_nothing}

pub under_none : (weight : ℤ) (n : ℕ) → FitsSigned w64 weight → of_z w64 weight ≡ 0 → pos 0 ≡ times weight (pos n)
unfolding times
under_none weight n fits none =
    let is : weight ≡ pos 0 = sym (to_z-of_z w64 weight fits) ∙ ap (to_z w64) none in
    sym (ap (λ x. int_div_euclid x (pos 1_000_000)) (ap (λ w. w *ℤ pos n) is ∙ zero-*ℤ (pos n)))

-- ---- topics

under : (weight z : ℤ) → weight ≡ pos 0 → times weight z ≡ pos 0
unfolding times
under weight z none = ap (λ w. int_div_euclid (w *ℤ z) (pos 1_000_000)) none ∙ ap (λ x. int_div_euclid x (pos 1_000_000)) (zero-*ℤ z)

-- a topic with these gives nothing, whatever is counted on it
abbrev pub GivesNothing : TopicFactors → Type 0
GivesNothing f = (r : TopicRules) (now : ℕ) (h : Held) → r.factors ≡ f → topic_part r now h ≡ pos 0

-- it does where its factors are in their ranges, as those of parameters are
abbrev pub IsWeightless : TopicFactors → Type 0
IsWeightless f = TopicFactorsAreInRange f → GivesNothing f

pub is_none : (weight : ℤ) → to_z w64 (of_z w64 weight) ≡ weight → of_z w64 weight ≡ 0 → weight ≡ pos 0
is_none weight back none = sym back ∙ ap (to_z w64) none

pub without_weight : (f : TopicFactors) → f.topic_weight ≡ pos 0 → GivesNothing f
unfolding topic_part
without_weight f none = λ r now h is. under r.factors.topic_weight (weighed r now h) (ap (λ (x : TopicFactors). x.topic_weight) is ∙ none)

pub without_weights : (f : TopicFactors) → f.w1 ≡ pos 0 → f.w2 ≡ pos 0 → f.w3 ≡ pos 0 → f.w3b ≡ pos 0 → f.w4 ≡ pos 0 → GivesNothing f
unfolding topic_part
without_weights f e1 e2 e3 e3b e4 = λ r now h is.
    rw (
      under r.factors.w1 (pos (p1 r now h.since)) (ap (λ (x : TopicFactors). x.w1) is ∙ e1),
      under r.factors.w2 (pos (p2 h)) (ap (λ (x : TopicFactors). x.w2) is ∙ e2),
      under r.factors.w3 (pos (p3 r now h)) (ap (λ (x : TopicFactors). x.w3) is ∙ e3),
      under r.factors.w3b (pos (p3b h)) (ap (λ (x : TopicFactors). x.w3b) is ∙ e3b),
      under r.factors.w4 (pos (p4 h)) (ap (λ (x : TopicFactors). x.w4) is ∙ e4),
    )
    (times_nothing r.factors.topic_weight)

found_in : (P : TopicParams → Type 0) (t : Topic) (topics : List (Topic × TopicParams)) → AllByRecursion (λ (x : Topic × TopicParams). P x.1) topics → IfSome (lookup (same_topic t) topics) P
found_in P t [] h = tt
found_in P t (x ∷ topics) h = either (same_topic t x.0) x.1 (lookup (same_topic t) topics) h.0 (found_in P t topics h.1)
  where
    either : (b : Bool) (v : TopicParams) (o : Option TopicParams) → P v → IfSome o P → IfSome (cond b (Some v) o) P
    either true v o this others = this
    either false v o this others = others

-- where no topic gives anything by its parameters, none does: the defaults have no weights
pub none_gives : (params : Params) → AreInRange params
    → AllByRecursion (λ (x : Topic × TopicParams). IsWeightless x.1.factors) params.topics
    → (t : Topic) (now : ℕ) (h : Held)
    → topic_part (rules_of params t) now h ≡ pos 0
none_gives params in_range all t now h =
    found_or (λ (p : TopicParams). IsWeightless p.factors) (lookup (same_topic t) params.topics) default_topic_params
    (found_in (λ (p : TopicParams). IsWeightless p.factors) t params.topics all)
    (λ _. without_weights default_topic_params.factors refl refl refl refl refl)
    (rules_in_range params in_range t).factors
    (rules_of params t) now h refl
