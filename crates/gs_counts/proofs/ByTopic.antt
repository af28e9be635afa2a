-- The rows of topics make up the whole.
use Rattle.std.proofs.Common.{◌≡◌, ◌≤◌, ℕ, ◌+◌, not, Bool, true, false, if◌then◌else◌, List, [], ◌∷◌, ◌++◌, filter, Option, Some, None, refl, sym, ap, ap₂, ◌∙◌, arith}
use Rattle.std.specs.Prelude.{◌||◌, is_none, option_to_list}
use Rattle.std.specs.List.{AllByRecursion, list_any, sum_by}
use Rattle.std.specs.List.Sorted.{IsStrictlySortedBy}
use Rattle.std.specs.Ordering.{is_eq}
use Rattle.std.specs.declared.cmp.Ordering.TheVariants.{Less}
use Rattle.std.proofs.lemmas.List.Folds.{list_any-append}
use Rattle.std.proofs.lemmas.List.Sums.{sum_by-cons}
use Rattle.gs_base.specs.declared.names.Topic.{Topic}
use Rattle.gs_base.specs.Names.{same_topic}
use Rattle.gs_rules.specs.Tables.{ascending, topic_order}
use Rattle.gs_rules.proofs.Topics.{ascending_any, ascending_sorted}
use Rattle.gs_router.proofs.Ascending.{one_topic}
use Rattle.gs_counts.specs.declared.happening.Happening.{Happening}
use Rattle.gs_counts.specs.Standing.{is_on, topics_in}
use Rattle.gs_counts.specs.Sums.{MakeUp, in_none, stands_on}
use Rattle.gs_counts.proofs.Parts.{make_up, one_if}
use Rattle.gs_counts.proofs.Sorted.{itself, same_order}

-- ---- each stands in one row at most

-- how often a topic stands in a list
abbrev hits : Topic → List Topic → ℕ
hits u ts = sum_by (λ t. one_if (same_topic u t)) ts

none_later : (u t : Topic) (ts : List Topic) → same_topic u t ≡ true → AllByRecursion (λ v. topic_order t v ≡ Less) ts → hits u ts ≡ 0
none_later u t [] is above = refl
none_later u t (v ∷ vs) is above =
    let first = sum_by-cons (λ (w : Topic). one_if (same_topic u w)) v vs in
    let apart : one_if (same_topic u v) ≡ 0 = ap one_if (ap (λ (w : Topic). same_topic w v) (one_topic u t is) ∙ sym (same_order t v) ∙ ap is_eq above.0) in
    let later = none_later u t vs is above.1 in
    omega (arith, first, apart, later)

once : (u : Topic) (ts : List Topic) → IsStrictlySortedBy topic_order ts → hits u ts ≤ 1
unfolding IsStrictlySortedBy
once u [] sorted = omega arith
once u (t ∷ ts) sorted = by (same_topic u t) refl (once u ts sorted.1)
  where
    first : hits u (t ∷ ts) ≡ one_if (same_topic u t) + hits u ts
    first = sum_by-cons (λ (w : Topic). one_if (same_topic u w)) t ts

    by : (b : Bool) → same_topic u t ≡ b → hits u ts ≤ 1 → hits u (t ∷ ts) ≤ 1
    by true is rest =
        let here : one_if (same_topic u t) ≡ 1 = ap one_if is in
        let later = none_later u t ts is sorted.0 in
        omega (arith, first, here, later)
    by false is rest = let here : one_if (same_topic u t) ≡ 0 = ap one_if is in omega (arith, first, here, rest)

nowhere : (ts : List Topic) → sum_by (λ t. one_if (is_on t None)) ts ≡ 0
nowhere [] = refl
nowhere (t ∷ ts) =
    let first = sum_by-cons (λ (w : Topic). one_if (is_on w None)) t ts in
    let later = nowhere ts in
    omega (arith, first, later)

pub topics_whole : (hs : List Happening) → MakeUp stands_on (ascending (topics_in hs)) hs
topics_whole hs = make_up stands_on (ascending (topics_in hs)) (λ h. by h.topic) hs
  where
    by : (o : Option Topic) → sum_by (λ t. one_if (is_on t o)) (ascending (topics_in hs)) ≤ 1
    by None = let none = nowhere (ascending (topics_in hs)) in omega (arith, none)
    by (Some u) = once u (ascending (topics_in hs)) (ascending_sorted (topics_in hs))

-- ---- what stands in none is on no topic

none_on_none : (ts : List Topic) → list_any (λ t. is_on t None) ts ≡ false
none_on_none [] = refl
none_on_none (t ∷ ts) = none_on_none ts

or_true : (a b : Bool) → b ≡ true → (a || b) ≡ true
or_true true b is = refl
or_true false b is = is

module _ (all : List Topic) where
  -- those whose topics are among these
  filtered : (hs : List Happening) → ((q : Topic) → list_any (same_topic q) (topics_in hs) ≡ true → list_any (same_topic q) all ≡ true) → filter (in_none stands_on (ascending all)) hs ≡ filter (λ h. is_none h.topic) hs
  filtered [] known = refl
  filtered (h ∷ hs) known =
      ap₂ (λ (b : Bool) (xs : List Happening). if b then h ∷ xs else xs) (by h.topic refl) (filtered hs (λ q is. known q (list_any-append (same_topic q) (option_to_list h.topic) (topics_in hs) ∙ or_true (list_any (same_topic q) (option_to_list h.topic)) (list_any (same_topic q) (topics_in hs)) is)))
    where
      by : (o : Option Topic) → h.topic ≡ o → not (list_any (λ t. is_on t h.topic) (ascending all)) ≡ is_none h.topic
      by None is = ap (λ (o : Option Topic). not (list_any (λ t. is_on t o) (ascending all))) is ∙ ap not (none_on_none (ascending all)) ∙ sym (ap is_none is)
      by (Some u) is =
          ap (λ (o : Option Topic). not (list_any (λ t. is_on t o) (ascending all))) is
          ∙ ap not (ascending_any u all ∙ known u (ap (λ (o : Option Topic). list_any (same_topic u) (option_to_list o ++ topics_in hs)) is ∙ ap (λ (b : Bool). b || list_any (same_topic u) (topics_in hs)) (itself u)))
          ∙ sym (ap is_none is)

pub none_are_on_none : (hs : List Happening) → filter (in_none stands_on (ascending (topics_in hs))) hs ≡ filter (λ h. is_none h.topic) hs
none_are_on_none hs = filtered (topics_in hs) hs (λ q is. is)
