-- A table that is filled by one topic after the other tells how each topic is scored.
use Rattle.std.proofs.Common.{◌≡◌, inl, inr, Bool, true, false, cond, List, ◌∷◌, Option, Some, None, refl, sym, ap, subst, ◌∙◌}
use Rattle.std.specs.Map.{lookup}
use Rattle.std.specs.Option.{option_or, unwrap_or}
use Rattle.gs_base.specs.Names.{same_topic}
use Rattle.gs_base.specs.declared.names.Topic.{Topic}
use Rattle.gs_params.specs.Params.{default_topic_params}
use Rattle.gs_params.specs.declared.params.Params.{Params}
use Rattle.gs_params.specs.declared.topic_params.TopicParams.{TopicParams}
use Rattle.gs_score.specs.declared.rules.TopicRules.{TopicRules}
use Rattle.gs_score.specs.Accounts.{params_in, rules_of}
use Rattle.gs_score.specs.Rulebooks.{rules_with}
use Rattle.gs_score.proofs.Sums.{topics_tell}

swapped : (x t : Topic) → same_topic x t ≡ same_topic t x
swapped x t =
    elim (topics_tell x t) [
      | inl p ↦ subst (λ y. same_topic x y ≡ same_topic y x) p.1 refl
      | inr p ↦ elim (topics_tell t x) [
        | inl q ↦ absurd (p.1 (sym q.1))
        | inr q ↦ p.0 ∙ sym q.0
      ]
    ]

-- what is in the table counts, and else what is left to be noted
abbrev pub TellsWith : Params → List (Topic × TopicRules) → List (Topic × TopicParams) → Type 0
TellsWith params rules left = (t : Topic) → unwrap_or (lookup (same_topic t) rules) (rules_with params (params_in left t)) ≡ rules_of params t

-- the first of what is left is noted where its topic is not in the table
pub tells_on : (params : Params) (old new : List (Topic × TopicRules)) (x : Topic × TopicParams) (left : List (Topic × TopicParams))
    → ((t : Topic) → lookup (same_topic t) new ≡ option_or (lookup (same_topic t) old) (cond (same_topic x.0 t) (Some (rules_with params x.1)) None))
    → TellsWith params old (x ∷ left)
    → TellsWith params new left
tells_on params old new x left noted tells t =
    ap (λ (o : Option TopicRules). unwrap_or o (rules_with params (params_in left t)))
    (noted t ∙ ap (λ (b : Bool). option_or (lookup (same_topic t) old) (cond b (Some (rules_with params x.1)) None)) (swapped x.0 t))
    ∙ by (rules_of params t) (lookup (same_topic t) old) (same_topic t x.0) (lookup (same_topic t) left) (tells t)
  where
    by : (told : TopicRules) (o : Option TopicRules) (b : Bool) (later : Option TopicParams)
        → unwrap_or o (rules_with params (unwrap_or (cond b (Some x.1) later) default_topic_params)) ≡ told
        → unwrap_or (option_or o (cond b (Some (rules_with params x.1)) None)) (rules_with params (unwrap_or later default_topic_params)) ≡ told
    by told (Some r) b later h = h
    by told None true later h = h
    by told None false later h = h
