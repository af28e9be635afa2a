-- What the bytes of an input describe.
use Rattle.std.specs.Prelude.{◌≡◌, ◌≤◌, ◌<◌, ℕ, List, length, codes, Option, IfSome, Ok, Err, IsUtf8}
use Rattle.gs_plan.specs.Limits.{longest_input}
use Rattle.gs_plan.specs.declared.limits.Limits.{Limits}
use Rattle.gs_plan.specs.declared.plan.Plan.{Plan}
use Rattle.gs_scenario.specs.declared.fault.ScenarioFault.{ScenarioFault}
use Rattle.gs_scenario.specs.declared.fault.ScenarioFault.TheVariants.{Toml, Range, NoMemory}
use Rattle.gs_scenario.specs.declared.reason.Found.TheVariants.{LongInput}
use Rattle.gs_scenario.specs.declared.reason.Wanted.TheVariants.{ShortInput}
use Rattle.gs_scenario.specs.PlanOf.{plan_of}

-- The plan is what the whole input describes within these limits. Where the input's bytes are not known, it is what some text
-- describes.
pub record IsScenario (limits : Limits) (input : Option (List ℕ)) (plan : Plan) : Type 0 where
  pub text : List ℕ
  pub whole : IfSome input (λ bytes. text ≡ bytes)
  pub short : length text ≤ longest_input limits
  pub readable : IsUtf8 text
  pub described : plan_of limits text ≡ Ok plan

-- the refusal of an input that is too long
abbrev pub input_too_long : Limits → ScenarioFault
input_too_long limits = Range (codes "input") LongInput (ShortInput (longest_input limits))

-- Why bytes are refused within these limits. They are too many, whatever they are; they are not UTF-8; the text describes no
-- plan; or memory ran out before that was known.
pub data IsRefusal (limits : Limits) (bytes : List ℕ) (fault : ScenarioFault) : Type 0 where
  too_long : longest_input limits < length bytes → fault ≡ input_too_long limits → IsRefusal limits bytes fault
  no_text : length bytes ≤ longest_input limits → ¬ (IsUtf8 bytes) → fault ≡ Toml → IsRefusal limits bytes fault
  no_plan : length bytes ≤ longest_input limits → IsUtf8 bytes → plan_of limits bytes ≡ Err fault
      → IsRefusal limits bytes fault
  no_memory : fault ≡ NoMemory → IsRefusal limits bytes fault
