-- A scenario within any limits has the same plan within the large ones.
use Rattle.std.proofs.Common.{◌≡◌, ◌≤◌, ℕ, Bool, true, false, if◌then◌else◌, List, [], Option, Some, None, Result, Ok, Err, refl, sym, ap, ◌∙◌, arith}
use Rattle.std.specs.Prelude.{◌&&◌, nat_le, option_and_then}
use Rattle.std.proofs.lemmas.Bool.Decides.{nat_tests}
use Rattle.toml.specs.Data.{Data, Items, Members, get_member, as_array}
use Rattle.toml.specs.Parse.{parse_document}
use Rattle.gs_plan.specs.Limits.{most_peers}
use Rattle.gs_plan.specs.declared.limits.Limits.{Limits}
use Rattle.gs_plan.specs.declared.limits.Limits.TheVariants.{Standard, Large}
use Rattle.gs_plan.specs.declared.plan.Plan.{Plan}
use Rattle.gs_scenario.specs.declared.fault.ScenarioFault.{ScenarioFault}
use Rattle.gs_scenario.specs.declared.scenario.tables.TableKind.TheVariants as kinds
use Rattle.gs_scenario.specs.Keys.{◌>>=◌, Section, only, or_refuse, read_key, reads_required}
use Rattle.gs_scenario.specs.declared.reason.Wanted.TheVariants as wanted
use Rattle.gs_scenario.specs.Kinds.{list_of, of_length, out_of_range}
use Rattle.gs_scenario.specs.PlanOf.{Top, apps_key, capacity_key, dials_key, explicit_key, params_key, peers_key, plan_in, plan_of, plan_of_document, round_ms_key, rounds_key, script_key, seed_key, top_in, top_keys, topics_key, workers_key}
use Rattle.gs_scenario.specs.Refusal.{item_count}

abbrev Read : Type 0 → Type 0
Read A = Result A ScenarioFault

-- where the first gives something, the second gives the same
abbrev Carries : {A : Type 0} → Read A → Read A → Type 0
Carries {A} x y = (a : A) → x ≡ Ok a → y ≡ Ok a

then_carried : {A B : Type 0} (x y : Read A) (f g : A → Read B) → Carries x y → ((a : A) → Carries (f a) (g a)) → Carries (x >>= f) (y >>= g)
then_carried (Ok a) y f g first rest = λ b is. ap (λ (z : Read _). z >>= g) (first a refl) ∙ rest a b is
then_carried (Err fault) y f g first rest = λ b is. absurd cc

-- the same is read first
then_same : {A B : Type 0} (x : Read A) (f g : A → Read B) → ((a : A) → Carries (f a) (g a)) → Carries (x >>= f) (x >>= g)
then_same x f g rest = then_carried x x f g (λ a is. is) rest

-- ---- the peers

few_enough : (limits : Limits) → most_peers limits ≤ 4096
few_enough Standard = omega arith
few_enough Large = omega arith

within : (n high : ℕ) → high ≤ 4096 → (nat_le 1 n && nat_le n high) ≡ true → (nat_le 1 n && nat_le n 4096) ≡ true
within n high below is = grind (arith, nat_tests)

counted : (high : ℕ) (fault other : ScenarioFault) (ds : Items) → high ≤ 4096 → Carries (or_refuse fault (of_length 1 high ds)) (or_refuse other (of_length 1 4096 ds))
counted high fault other ds below = by (nat_le 1 (item_count ds) && nat_le (item_count ds) high) refl
  where
    by : (b : Bool) → (nat_le 1 (item_count ds) && nat_le (item_count ds) high) ≡ b → Carries (or_refuse fault (if b then Some ds else None)) (or_refuse other (of_length 1 4096 ds))
    by true is = λ found same. ap (λ (c : Bool). or_refuse other (if c then Some ds else None)) (within (item_count ds) high below is) ∙ same
    by false is = λ found same. absurd cc

peers_carried : (limits : Limits) (place : List ℕ) (found : Option Data) → Carries (reads_required (list_of 1 (most_peers limits)) place found) (reads_required (list_of 1 (most_peers Large)) place found)
peers_carried limits place None = λ ds is. absurd cc
peers_carried limits place (Some d) = by (as_array d)
  where
    by : (o : Option Items) → Carries (or_refuse (out_of_range place d (wanted.Elements 1 (most_peers limits))) (option_and_then (of_length 1 (most_peers limits)) o)) (or_refuse (out_of_range place d (wanted.Elements 1 4096)) (option_and_then (of_length 1 4096) o))
    by None = λ ds is. absurd cc
    by (Some ds) = counted (most_peers limits) _ _ ds (few_enough limits)

-- ---- the plan

top_carried : (limits : Limits) (top : Section) → Carries (top_in limits top) (top_in Large top)
unfolding top_in
top_carried limits top =
    then_same (only kinds.Top top_keys top) _ _ (λ none.
    then_same (read_key top round_ms_key) _ _ (λ round_ms.
    then_same (read_key top rounds_key) _ _ (λ rounds.
    then_same (read_key top workers_key) _ _ (λ workers.
    then_same (read_key top capacity_key) _ _ (λ capacity.
    then_same (read_key top seed_key) _ _ (λ seed.
    then_same (read_key top params_key) _ _ (λ params.
    then_same (read_key top topics_key) _ _ (λ topics.
    then_carried (read_key top (peers_key limits)) (read_key top (peers_key Large)) _ _ (peers_carried limits _ (get_member (peers_key limits).name top.members)) (λ peers.
    λ found is. is)))))))))

plan_carried : (limits : Limits) (members : Members) → Carries (plan_in limits members) (plan_in Large members)
unfolding plan_in
plan_carried limits members =
    then_carried (top_in limits (record { path = []; members = members })) (top_in Large (record { path = []; members = members })) _ _ (top_carried limits (record { path = []; members = members })) (λ top plan is. is)

document_carried : (limits : Limits) (found : Option Members) → Carries (plan_of_document limits found) (plan_of_document Large found)
document_carried limits None = λ plan is. absurd cc
document_carried limits (Some members) = plan_carried limits members

-- what a text describes within any limits, it describes within the large ones
pub described_within_large : (limits : Limits) (text : List ℕ) (plan : Plan) → plan_of limits text ≡ Ok plan → plan_of Large text ≡ Ok plan
described_within_large limits text = document_carried limits (parse_document text)
