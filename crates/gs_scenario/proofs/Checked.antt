-- Parameters that pass their checks.
use Rattle.std.proofs.Common.{◌≡◌, Result, Ok, Option, Some, None, subst}
use Rattle.gs_params.specs.declared.params.Params.{Params}
use Rattle.gs_params.specs.declared.checks.Check.{Check}
use Rattle.gs_params.specs.declared.param_fault.ParamFault.{ParamFault}
use Rattle.gs_params.specs.declared.param_fault.ParamFault.TheVariants as faults
use Rattle.gs_params.specs.Checks.{checked, unless_broken, first_broken, degree_checks, threshold_checks, all_factor_checks, all_timing_checks}

-- what passes a group of checks is what follows it
behind : (fault : Check → ParamFault) (found : Option Check) (rest : Result Params ParamFault) (q : Params) → unless_broken fault found rest ≡ Ok q → rest ≡ Ok q
behind fault None rest q h = h
behind fault (Some check) rest q h = search (h)

same_of_found : (a b c d : Option Check) (p q : Params) → unless_broken faults.Degrees a (unless_broken faults.Thresholds b (unless_broken faults.Factor c (unless_broken faults.Timing d (Ok p)))) ≡ Ok q → p ≡ q
same_of_found a b c d p q h =
    let second = behind faults.Degrees a _ q h in
    let third = behind faults.Thresholds b _ q second in
    let fourth = behind faults.Factor c _ q third in
    let last : Ok p ≡ Ok q = behind faults.Timing d (Ok p) q fourth in
    search (last)

-- what a check gives is what was checked
pub same_of_checked : (p q : Params) → checked p ≡ Ok q → p ≡ q
same_of_checked p q h = same_of_found (first_broken (degree_checks p.degrees)) (first_broken (threshold_checks p.thresholds)) (first_broken (all_factor_checks p)) (first_broken (all_timing_checks p)) p q h

-- what passed the checks passes them again
pub checked_again : (p q : Params) → checked p ≡ Ok q → checked q ≡ Ok q
checked_again p q h = subst (λ (x : Params). checked x ≡ Ok q) (same_of_checked p q h) h
