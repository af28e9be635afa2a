-- How the program goes on after a text was read whole.
use Rattle.std.proofs.Common.{◌≡◌, ℕ, List, Option, Some, Result, Ok, Err, IfOk, IfErr, subst}
use Rattle.gs_plan.specs.declared.limits.Limits.{Limits}
use Rattle.gs_plan.specs.declared.plan.Plan.{Plan}
use Rattle.gs_plan.specs.Plans.{IsInRange}
use Rattle.gs_scenario.specs.declared.fault.ScenarioFault.{ScenarioFault}
use Rattle.gs_streams.specs.Inputs.{IsRefusal, IsScenario}
use Rattle.gs_streams.specs.declared.exit_status.ExitStatus.{ExitStatus}
use Rattle.gs_program.specs.Endings.{GoesOn, GoesOnWith, IsPlanned}

planned_of : (limits : Limits) (text : List ℕ) (planned : Result Plan ScenarioFault) → IfOk planned (λ plan. IsScenario limits (Some text) plan) → IfOk planned (λ plan. IsInRange plan) → IfErr planned (IsRefusal limits text) → IsPlanned limits text planned
planned_of limits text (Ok plan) found in_range refused = (found, in_range)
planned_of limits text (Err fault) found in_range refused = refused

-- what was read is `text`, and the plan is that of the same bytes
pub goes_on_with : (limits : Limits) (text bytes : List ℕ) (planned : Result Plan ScenarioFault) (result : Result Plan ExitStatus) (errors errors' : Option (List ℕ)) → bytes ≡ text → IfOk planned (λ plan. IsScenario limits (Some bytes) plan)
    → IfOk planned (λ plan. IsInRange plan) → IfErr planned (IsRefusal limits bytes) → GoesOn planned result errors errors' → GoesOnWith limits text result errors errors'
goes_on_with limits text bytes planned result errors errors' same found in_range refused goes_on = record {
  planned = planned;
  is_planned = subst (λ (read : List ℕ). IsPlanned limits read planned) same (planned_of limits bytes planned found in_range refused);
  goes_on = goes_on;
}
