-- What is kept for topics, after one is put or changed.
use Rattle.std.proofs.Common.{◌≡◌, suc, ◌+◌, ◌≤◌, inl, inr, is_some, Bool, true, false, cond, List, length, Option, Some, None, refl, sym, ap, ◌∙◌, arith}
use Rattle.std.specs.Prelude.{◌||◌}
use Rattle.std.specs.Option.{unwrap_or}
use Rattle.std.specs.Map.{lookup}
use Rattle.gs_base.specs.Names.{same_topic}
use Rattle.gs_base.specs.declared.names.Topic.{Topic}
use Rattle.gs_score.specs.declared.standing.Standing.{Standing}
use Rattle.gs_score.specs.Accounts.{AddsTopic, KeepsTopics, has_topic, standing_in}
use Rattle.gs_score.specs.Standings.{fresh, pruned}
use Rattle.gs_score.proofs.Sums.{topics_tell}

pub cond_unwrap : {A : Type 0} (b : Bool) (x d : A) (o : Option A) → unwrap_or (cond b (Some x) o) d ≡ cond b x (unwrap_or o d)
cond_unwrap true x d o = refl
cond_unwrap false x d o = refl

pub kept_put : (old new : List (Topic × Standing)) (topic : Topic) (s : Standing)
    → ((q : Topic) → lookup (same_topic q) new ≡ cond (same_topic topic q) (Some s) (lookup (same_topic q) old))
    → (t : Topic) → standing_in new t ≡ cond (same_topic topic t) s (standing_in old t)
kept_put old new topic s h t =
    ap (λ (o : Option Standing). unwrap_or o fresh) (h t) ∙ cond_unwrap (same_topic topic t) s fresh (lookup (same_topic t) old)

-- what is kept for a topic makes a step
pub kept_step : (old new : List (Topic × Standing)) (topic : Topic) (f : Standing → Standing) (was s : Standing)
    → standing_in old topic ≡ was → s ≡ f was
    → ((q : Topic) → lookup (same_topic q) new ≡ cond (same_topic topic q) (Some s) (lookup (same_topic q) old))
    → (t : Topic) → standing_in new t ≡ cond (same_topic topic t) (f (standing_in old topic)) (standing_in old t)
kept_step old new topic f was s here is h t =
    kept_put old new topic s h t
    ∙ ap (λ (x : Standing). cond (same_topic topic t) x (standing_in old t)) (is ∙ ap f (sym here))

is_some_cond : (b : Bool) (s : Standing) (o : Option Standing) → is_some (cond b (Some s) o) ≡ (b || is_some o)
is_some_cond true s o = refl
is_some_cond false s o = refl

-- a topic on which there was nothing
pub kept_adds : (old new : List (Topic × Standing)) (topic : Topic) (s : Standing) (was : Option Standing)
    → ((q : Topic) → lookup (same_topic q) new ≡ cond (same_topic topic q) (Some s) (lookup (same_topic q) old))
    → lookup (same_topic topic) old ≡ None
    → was ≡ None
    → length new ≡ length old + cond (is_some was) 0 1
    → AddsTopic old new topic
kept_adds old new topic s was h none is len =
    let more : length new ≡ length old + 1 = len ∙ ap (λ (o : Option Standing). length old + cond (is_some o) 0 1) is in
    record {
      topics = λ u. ap is_some (h u) ∙ is_some_cond (same_topic topic u) s (lookup (same_topic u) old);
      number = rw none (omega (arith, more));
    }

-- so there is one topic more at most
pub most_added : (old new : List (Topic × Standing)) (topic : Topic) → AddsTopic old new topic
    → length new ≤ cond (has_topic old topic) (length old) (length old + 1)
most_added old new topic adds = by (has_topic old topic) adds.number
  where
    by : (has : Bool) → length new ≡ cond has (length old) (suc (length old)) → length new ≤ cond has (length old) (length old + 1)
    by true is = omega (arith, is)
    by false is = omega (arith, is)

-- a topic on which there was something
pub kept_keeps : (old new : List (Topic × Standing)) (topic : Topic) (s was : Standing)
    → ((q : Topic) → lookup (same_topic q) new ≡ cond (same_topic topic q) (Some s) (lookup (same_topic q) old))
    → lookup (same_topic topic) old ≡ Some was
    → length new ≡ length old
    → KeepsTopics old new
kept_keeps old new topic s was h found len = record {
  topics = λ u. elim (topics_tell topic u) [
    | inl p ↦ (
        let here : has_topic old u ≡ true = ap (has_topic old) (sym p.1) ∙ ap is_some found in
        ap is_some (h u) ∙ is_some_cond (same_topic topic u) s (lookup (same_topic u) old) ∙ rw p.0 (sym here)
        )
    | inr p ↦ ap is_some (h u) ∙ rw p.0 refl
  ];
  number = len;
}

-- to put nothing where nothing is kept changes nothing
pub absent_put : (es : List (Topic × Standing)) (topic : Topic) (s : Standing) → lookup (same_topic topic) es ≡ None → s ≡ fresh
    → (t : Topic) → standing_in es t ≡ cond (same_topic topic t) s (standing_in es t)
absent_put es topic s e h t =
    elim (topics_tell topic t) [
      | inl p ↦ rw p.0 (ap (standing_in es) (sym p.1) ∙ ap (λ (o : Option Standing). unwrap_or o fresh) e ∙ sym h)
      | inr p ↦ rw p.0 refl
    ]

-- who has nothing on a topic has nothing there out of its mesh
pub absent_pruned : (es : List (Topic × Standing)) (topic : Topic) → has_topic es topic ≡ false → pruned (standing_in es topic) ≡ fresh
absent_pruned es topic none = by (lookup (same_topic topic) es) none
  where
    by : (o : Option Standing) → is_some o ≡ false → pruned (unwrap_or o fresh) ≡ fresh
    by None e = refl
    by (Some s) e = cc
