-- What answers say of an input.
use Rattle.std.proofs.Common.{◌≡◌, ◌≢◌, ◌∙◌, arith, ℕ, List, Some, length, sym, ap, subst, true≢false}
use Rattle.std.specs.Prelude.{◌≤◌, IsUtf8, Ok, is_ok}
use Rattle.gs_scenario.specs.declared.fault.ScenarioFault.{ScenarioFault}
use Rattle.gs_scenario.specs.Refusal.{number_of}
use Rattle.gs_scenario.specs.PlanOf.{plan_of}
use Rattle.gs_streams.specs.Inputs.{IsRefusal, no_memory, no_plan, no_text, too_long}
use Rattle.gs_plan.specs.Limits.{longest_input}
use Rattle.gs_plan.specs.declared.limits.Limits.{Limits}
use Rattle.gs_check.specs.declared.answer.Verdict.TheVariants as verdicts
use Rattle.gs_check.specs.Program.{Answers}

-- an input that describes a plan is refused only where memory ran out, and that is no verdict
pub accepted_or_refused : (limits : Limits) (bytes one other : List ℕ) → Answers limits verdicts.Accepted (Some bytes) one → Answers limits verdicts.Refused (Some bytes) other → ⊥
accepted_or_refused limits bytes one other accepted refused = by refused.fault refused.judged refused.refused
  where
    short : length bytes ≤ longest_input limits
    short = subst (λ (known : List ℕ). length known ≤ longest_input limits) accepted.scenario.whole accepted.scenario.short

    described : plan_of limits bytes ≡ Ok accepted.plan
    described = subst (λ (known : List ℕ). plan_of limits known ≡ Ok accepted.plan) accepted.scenario.whole accepted.scenario.described

    by : (fault : ScenarioFault) → number_of fault ≢ 32 → IsRefusal limits bytes fault → ⊥
    by fault judged (too_long long is) = absurd (omega (arith, short, long))
    by fault judged (no_text within unreadable is) = unreadable (subst IsUtf8 accepted.scenario.whole accepted.scenario.readable)
    by fault judged (no_plan within readable is) = true≢false (ap is_ok (sym described ∙ is))
    by fault judged (no_memory is) = judged (ap number_of is)
