-- No check fails exactly where each parameter is in its range.
use Rattle.std.proofs.Common.{◌≡◌, refl, sym, subst, arith, ℕ, zero, suc, ◌+◌, ◌*◌, ◌≤◌, ◌<◌, ℤ, ◌≤ℤ◌, ◌<ℤ◌, int_le, int_lt, nat_le, Bool, true, false, T, List, [], ◌∷◌, Option, None, Ok, Decides}
use Rattle.std.specs.List.{All, AllByRecursion, list_all}
use Rattle.std.proofs.lemmas.Bool.{leb-true, le-leb}
use Rattle.std.proofs.lemmas.Bool.Decides.{Decides-and, Decides-at, Decides-like, Decides-ltb}
use Rattle.std.proofs.lemmas.List.Elements.{All-from_recursion, recursion_from_All}
use Rattle.std.proofs.lemmas.List.Folds.{list_all-append}
use Rattle.gs_base.specs.declared.names.Topic.{Topic}
use Rattle.gs_params.specs.declared.params.Degrees.{Degrees}
use Rattle.gs_params.specs.declared.params.Thresholds.{Thresholds}
use Rattle.gs_params.specs.declared.params.Factors.{Factors}
use Rattle.gs_params.specs.declared.params.Timing.{Timing}
use Rattle.gs_params.specs.declared.params.Params.{Params}
use Rattle.gs_params.specs.declared.topic_params.TopicFactors.{TopicFactors}
use Rattle.gs_params.specs.declared.topic_params.TopicTiming.{TopicTiming}
use Rattle.gs_params.specs.declared.topic_params.TopicParams.{TopicParams}
use Rattle.gs_params.specs.declared.checks.CountRule.{CountRule}
use Rattle.gs_params.specs.declared.checks.CountRule.TheVariants as count
use Rattle.gs_params.specs.declared.checks.ScoreRule.{ScoreRule}
use Rattle.gs_params.specs.declared.checks.ScoreRule.TheVariants as score
use Rattle.gs_params.specs.declared.checks.Check.{Check}
use Rattle.gs_params.specs.declared.checks.Check.TheVariants.{Count, Score}
use Rattle.gs_params.specs.declared.param_fault.ParamFault.TheVariants as faults
use Rattle.gs_params.specs.Params.{AreInRange, DegreesAreInRange, ThresholdsAreInRange, FactorsAreInRange, TimingIsInRange, TopicFactorsAreInRange, TopicTimingIsInRange}
use Rattle.gs_params.specs.Checks.{checked, in_range, count_keeps, score_keeps, holds, first_broken, unless_broken, degree_checks, threshold_checks, factor_checks, timing_checks, topic_factor_checks, topic_timing_checks, each_topic_from, all_factor_checks, all_timing_checks}
use Rattle.gs_params.proofs.Broken.{all_hold, none_fails}

-- ---- a test and what it decides

le : (a b : ℕ) → Decides (nat_le a b) (a ≤ b)
le a b = (leb-true a b, le-leb a b)

-- a test passed
passes : (b : Bool) → T b → b ≡ true
passes true h = refl
passes false h = absurd h

le_int : (a b : ℤ) → Decides (int_le a b) (a ≤ℤ b)
le_int a b = (λ e. record { le = subst T (sym e) tt }, λ h. passes (int_le a b) h.le)

lt_int : (a b : ℤ) → Decides (int_lt a b) (a <ℤ b)
lt_int a b = (λ e. record { lt = subst T (sym e) tt }, λ h. passes (int_lt a b) h.lt)

-- nothing is below 0
abbrev IsBetween : ℕ → ℕ → ℕ → Type 0
IsBetween zero high n = n ≤ high
IsBetween (suc low) high n = (suc low ≤ n) × (n ≤ high)

between : (low high n : ℕ) → Decides (in_range low high n) (IsBetween low high n)
between zero high n =
    let least : 0 ≤ n = omega arith in
    Decides-like (in_range 0 high n) (λ h. h.1) (λ h. (least, h)) (Decides-and _ _ (le 0 n) (le n high))
between (suc low) high n = Decides-and _ _ (le (suc low) n) (le n high)

-- ---- what a check says

abbrev CountKeeps : ℕ → CountRule → Type 0
CountKeeps n (count.AtLeast low) = low ≤ n
CountKeeps n (count.AtMost high) = n ≤ high
CountKeeps n (count.Range low high) = IsBetween low high n
CountKeeps n (count.NotAbove other its) = n ≤ its
CountKeeps n (count.BelowThat other its) = n < its
CountKeeps n (count.TwiceNotAbove other its) = 2 * n ≤ its
CountKeeps n (count.SumNotAbove second its third highest) = n + its ≤ highest

abbrev ScoreKeeps : ℤ → ScoreRule → Type 0
ScoreKeeps z (score.Below high) = z <ℤ high
ScoreKeeps z (score.Range low high) = (low ≤ℤ z) × (z ≤ℤ high)
ScoreKeeps z (score.NotAbove other its) = z ≤ℤ its

abbrev Says : Check → Type 0
Says (Count parameter value rule) = CountKeeps value rule
Says (Score parameter value rule) = ScoreKeeps value rule

count_keeps_rule : (n : ℕ) (rule : CountRule) → Decides (count_keeps n rule) (CountKeeps n rule)
count_keeps_rule n (count.AtLeast low) = le low n
count_keeps_rule n (count.AtMost high) = le n high
count_keeps_rule n (count.Range low high) = between low high n
count_keeps_rule n (count.NotAbove other its) = le n its
count_keeps_rule n (count.BelowThat other its) = Decides-ltb n its
count_keeps_rule n (count.TwiceNotAbove other its) = le (2 * n) its
count_keeps_rule n (count.SumNotAbove second its third highest) = le (n + its) highest

score_keeps_rule : (z : ℤ) (rule : ScoreRule) → Decides (score_keeps z rule) (ScoreKeeps z rule)
score_keeps_rule z (score.Below high) = lt_int z high
score_keeps_rule z (score.Range low high) = Decides-and _ _ (le_int low z) (le_int z high)
score_keeps_rule z (score.NotAbove other its) = le_int z its

says : (check : Check) → Decides (holds check) (Says check)
says (Count parameter value rule) = count_keeps_rule value rule
says (Score parameter value rule) = score_keeps_rule value rule

say : (checks : List Check) → Decides (list_all holds checks) (AllByRecursion Says checks)
say [] = (λ _. tt, λ _. refl)
say (check ∷ checks) = Decides-and _ _ (says check) (say checks)

-- checks say what a record of facts says
agree : {P : Type 0} (checks : List Check) → (AllByRecursion Says checks → P) → (P → AllByRecursion Says checks) → Decides (list_all holds checks) P
agree checks to from = Decides-like (list_all holds checks) to from (say checks)

-- ---- the groups of fields, of which none is named: `assumption` finds the fact of each

degrees : (x : Degrees) → Decides (list_all holds (degree_checks x)) (DegreesAreInRange x)
degrees x = agree (degree_checks x) (λ h. assumption) (λ h. assumption)

thresholds : (x : Thresholds) → Decides (list_all holds (threshold_checks x)) (ThresholdsAreInRange x)
thresholds x = agree (threshold_checks x) (λ h. assumption) (λ h. assumption)

factors : (x : Factors) → Decides (list_all holds (factor_checks x)) (FactorsAreInRange x)
factors x = agree (factor_checks x) (λ h. assumption) (λ h. assumption)

-- `mcache_len` is at least 1, since `mcache_gossip` is
timing : (x : Timing) → Decides (list_all holds (timing_checks x)) (TimingIsInRange x)
timing x =
    agree (timing_checks x) (λ h. assumption)
    (λ h. let some : 1 ≤ x.mcache_len = omega (arith, h.mcache_gossip.0, h.mcache_gossip.1) in assumption)

topic_factors : (place : ℕ) (x : TopicFactors) → Decides (list_all holds (topic_factor_checks place x)) (TopicFactorsAreInRange x)
topic_factors place x = agree (topic_factor_checks place x) (λ h. assumption) (λ h. assumption)

topic_timing : (place : ℕ) (x : TopicTiming) → Decides (list_all holds (topic_timing_checks place x)) (TopicTimingIsInRange x)
topic_timing place x = agree (topic_timing_checks place x) (λ h. assumption) (λ h. assumption)

-- ---- and of all topics

abbrev Topics : Type 0
Topics = List (Topic × TopicParams)

by_topic : (checks : ℕ → TopicParams → List Check) (P : TopicParams → Type 0) → ((place : ℕ) (one : TopicParams) → Decides (list_all holds (checks place one)) (P one)) → (place : ℕ) (topics : Topics) → Decides (list_all holds (each_topic_from checks place topics)) (AllByRecursion (λ topic. P topic.1) topics)
by_topic checks P each place [] = (λ _. tt, λ _. refl)
by_topic checks P each place (one ∷ topics) =
    Decides-at _ _ (list_all-append holds (checks place one.1) (each_topic_from checks (place + 1) topics))
    (Decides-and _ _ (each place one.1) (by_topic checks P each (place + 1) topics))

of_each : (checks : ℕ → TopicParams → List Check) (P : TopicParams → Type 0) → ((place : ℕ) (one : TopicParams) → Decides (list_all holds (checks place one)) (P one)) → (topics : Topics) → Decides (list_all holds (each_topic_from checks 0 topics)) (All (λ topic. P topic.1) topics)
of_each checks P each topics =
    Decides-like _ (All-from_recursion (λ (topic : Topic × TopicParams). P topic.1) topics) (recursion_from_All (λ (topic : Topic × TopicParams). P topic.1) topics) (by_topic checks P each 0 topics)

all_factors : (p : Params) → Decides (list_all holds (all_factor_checks p)) (FactorsAreInRange p.factors × All (λ (topic : Topic × TopicParams). TopicFactorsAreInRange topic.1.factors) p.topics)
all_factors p =
    Decides-at _ _ (list_all-append holds (factor_checks p.factors) (each_topic_from (λ place one. topic_factor_checks place one.factors) 0 p.topics))
    (Decides-and _ _ (factors p.factors)
    (of_each (λ place one. topic_factor_checks place one.factors) (λ one. TopicFactorsAreInRange one.factors) (λ place one. topic_factors place one.factors) p.topics))

all_timing : (p : Params) → Decides (list_all holds (all_timing_checks p)) (TimingIsInRange p.timing × All (λ (topic : Topic × TopicParams). TopicTimingIsInRange topic.1.timing) p.topics)
all_timing p =
    Decides-at _ _ (list_all-append holds (timing_checks p.timing) (each_topic_from (λ place one. topic_timing_checks place one.timing) 0 p.topics))
    (Decides-and _ _ (timing p.timing)
    (of_each (λ place one. topic_timing_checks place one.timing) (λ one. TopicTimingIsInRange one.timing) (λ place one. topic_timing place one.timing) p.topics))

-- ---- the four groups

pub from_checks : (p : Params) → first_broken (degree_checks p.degrees) ≡ None → first_broken (threshold_checks p.thresholds) ≡ None → first_broken (all_factor_checks p) ≡ None → first_broken (all_timing_checks p) ≡ None → AreInRange p
from_checks p d t f w =
    let of_factors = (all_factors p).0 (all_hold (all_factor_checks p) f) in
    let of_timing = (all_timing p).0 (all_hold (all_timing_checks p) w) in record {
      degrees = (degrees p.degrees).0 (all_hold (degree_checks p.degrees) d);
      thresholds = (thresholds p.thresholds).0 (all_hold (threshold_checks p.thresholds) t);
      factors = of_factors.0;
      timing = of_timing.0;
      topic_factors = of_factors.1;
      topic_timing = of_timing.1;
    }

-- where no group has a check that fails, the parameters pass
passed : (a b c d : Option Check) (p : Params) → a ≡ None → b ≡ None → c ≡ None → d ≡ None → unless_broken faults.Degrees a (unless_broken faults.Thresholds b (unless_broken faults.Factor c (unless_broken faults.Timing d (Ok p)))) ≡ Ok p
passed a b c d p e f g h = rw (e, f, g, h) refl

pub is_checked : (p : Params) → AreInRange p → checked p ≡ Ok p
is_checked p h =
    passed (first_broken (degree_checks p.degrees)) (first_broken (threshold_checks p.thresholds)) (first_broken (all_factor_checks p)) (first_broken (all_timing_checks p)) p
    (none_fails (degree_checks p.degrees) ((degrees p.degrees).1 h.degrees))
    (none_fails (threshold_checks p.thresholds) ((thresholds p.thresholds).1 h.thresholds))
    (none_fails (all_factor_checks p) ((all_factors p).1 (h.factors, h.topic_factors)))
    (none_fails (all_timing_checks p) ((all_timing p).1 (h.timing, h.topic_timing)))
