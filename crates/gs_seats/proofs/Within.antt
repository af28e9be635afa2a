-- What a plan gives its routers is in range.
use Rattle.std.proofs.Common.{◌≡◌, ◌≤◌, ◌^◌, ℤ, pos, unsigned_abs, arith, Bool, true, false, cond, List, [], ◌∷◌, map, option_map, unwrap_or, Option, Some, None, Ok, refl}
use Rattle.std.specs.Prelude.{All}
use Rattle.std.specs.List.{AllByRecursion, find}
use Rattle.std.proofs.lemmas.Int.{ints}
use Rattle.std.proofs.lemmas.List.Elements.{All-from_recursion, recursion_from_All}
use Rattle.gs_base.specs.declared.names.PeerNo.{PeerNo}
use Rattle.gs_base.specs.declared.neighbour.Neighbour.{Neighbour}
use Rattle.gs_params.specs.Checks.{all_factor_checks, all_timing_checks, degree_checks, first_broken, threshold_checks, unless_broken}
use Rattle.gs_params.specs.Params.{AreInRange}
use Rattle.gs_plan.specs.Plans.{IsAppScore, IsInRange}
use Rattle.gs_params.specs.declared.checks.Check.{Check}
use Rattle.gs_params.specs.declared.params.Params.{Params}
use Rattle.gs_params.specs.declared.param_fault.ParamFault.TheVariants as faults
use Rattle.gs_plan.specs.declared.plan.App.{App}
use Rattle.gs_plan.specs.declared.plan.Plan.{Plan}
use Rattle.gs_params.proofs.InRange.{from_checks}
use Rattle.gs_seats.specs.Rounds.{is_about, neighbour_in, neighbours, neighbours_in}

-- ---- parameters

-- where parameters pass, no group has a check that fails
none_broken : (a b c d : Option Check) (p : Params) → unless_broken faults.Degrees a (unless_broken faults.Thresholds b (unless_broken faults.Factor c (unless_broken faults.Timing d (Ok p)))) ≡ Ok p → (a ≡ None) × (b ≡ None) × (c ≡ None) × (d ≡ None)
none_broken None None None None p passed = (refl, refl, refl, refl)
none_broken (Some x) b c d p passed = absurd cc
none_broken None (Some x) c d p passed = absurd cc
none_broken None None (Some x) d p passed = absurd cc
none_broken None None None (Some x) p passed = absurd cc

pub params_in_range : (plan : Plan) → IsInRange plan → AreInRange plan.params
params_in_range plan range =
    let p = plan.params in
    let (d, t, f, w) = none_broken (first_broken (degree_checks p.degrees)) (first_broken (threshold_checks p.thresholds)) (first_broken (all_factor_checks p)) (first_broken (all_timing_checks p)) p range.params in
    from_checks p d t f w

-- ---- what applications say

within : (z : ℤ) → IsAppScore z → unsigned_abs z ≤ 10 ^ 12
within z h = grind (arith, ints, h.0, h.1)

found_within : (f : App → Bool) (apps : List App) → AllByRecursion (λ (app : App). IsAppScore app.value) apps → unsigned_abs (unwrap_or (option_map (λ (app : App). app.value) (find f apps)) (pos 0)) ≤ 10 ^ 12
found_within f [] all = omega arith
found_within f (app ∷ apps) all = by (f app) (found_within f apps all.1)
  where
    by : (b : Bool) → unsigned_abs (unwrap_or (option_map (λ (x : App). x.value) (find f apps)) (pos 0)) ≤ 10 ^ 12 → unsigned_abs (unwrap_or (option_map (λ (x : App). x.value) (cond b (Some app) (find f apps))) (pos 0)) ≤ 10 ^ 12
    by true rest = within app.value all.0
    by false rest = rest

each_within : (plan : Plan) (p : PeerNo) → IsInRange plan → (qs : List PeerNo) → AllByRecursion (λ (n : Neighbour). unsigned_abs n.app ≤ 10 ^ 12) (map (neighbour_in plan p) qs)
each_within plan p range [] = tt
each_within plan p range (q ∷ qs) = (found_within (is_about p q) plan.apps (recursion_from_All (λ (app : App). IsAppScore app.value) plan.apps range.app_values), each_within plan p range qs)

pub apps_within : (plan : Plan) (p : PeerNo) → IsInRange plan → All (λ (n : Neighbour). unsigned_abs n.app ≤ 10 ^ 12) (neighbours_in plan p)
apps_within plan p range = All-from_recursion (λ (n : Neighbour). unsigned_abs n.app ≤ 10 ^ 12) (neighbours_in plan p) (each_within plan p range (neighbours plan p))
