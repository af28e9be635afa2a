-- How a command ends if it takes options and prints a text about a run.
use Rattle.std.specs.Prelude.{ℕ, Bool, true, false, List, codes, Option, Some, None}
use Rattle.gs_plan.specs.declared.limits.Limits.{Limits}
use Rattle.gs_plan.specs.declared.limits.Limits.TheVariants.{Standard, Large}
use Rattle.gs_plan.specs.declared.plan.Plan.{Plan}
use Rattle.gs_report.specs.declared.report.Report.{Report}
use Rattle.gs_program.specs.Arguments.{IsMisused}
use Rattle.gs_program.specs.Options.{Given, Rule, has_option, once}
use Rattle.gs_program.specs.Progress.{ExitsShowing}

abbrev pub limits_for : (large : Bool) → Limits
limits_for false = Standard
limits_for true = Large

-- the limits that options ask for: the large ones only with `--large`
abbrev pub limits_given : List Given → Limits
limits_given given = limits_for (has_option given (codes "--large"))

-- whether options ask for lines about the progress of a run
abbrev pub progress_given : List Given → Bool
progress_given given = has_option given (codes "--progress")

-- the two options of each such command
abbrev pub large : Rule
large = once (codes "--large")

abbrev pub progress : Rule
progress = once (codes "--progress")

-- for a command that is called in this way, and writes this text for what is asked, in parts or as a whole
module _ {W : Type 0} (usage : List ℕ) (text_of : W → Plan → Report → List ℕ) (in_parts : Bool) where
  -- how it ends with these options, if they ask for something
  abbrev pub EndsWished : List Given → Option W → (status : ℕ) (input input' output output' errors errors' : Option (List ℕ))
      → Type 0
  EndsWished given None status input input' output output' errors errors' =
      IsMisused usage status input input' output output' errors errors'
  EndsWished given (Some wishes) status input input' output output' errors errors' =
      ExitsShowing (limits_given given) (text_of wishes) in_parts false (progress_given given) status
      input input' output output' errors errors'

  -- how it ends with arguments that give these options, or that are wrong; options ask for something by this function
  abbrev pub EndsAsked : (List Given → Option W) → Option (List Given)
      → (status : ℕ) (input input' output output' errors errors' : Option (List ℕ)) → Type 0
  EndsAsked wishes_for None status input input' output output' errors errors' =
      IsMisused usage status input input' output output' errors errors'
  EndsAsked wishes_for (Some given) status input input' output output' errors errors' =
      EndsWished given (wishes_for given) status input input' output output' errors errors'
