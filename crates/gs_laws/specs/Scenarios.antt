-- Scenarios that differ at most in how they are run have one report.
use Rattle.std.specs.Prelude.{◌≡◌, ℕ, if◌then◌else◌, List, [], ◌∷◌, Some}
use Rattle.toml.specs.Data.{Members, no_members, member}
use Rattle.toml.specs.Parse.{parse_document}
use Rattle.gs_plan.specs.declared.limits.Limits.{Limits}
use Rattle.gs_plan.specs.declared.plan.Plan.{Plan}
use Rattle.gs_report.specs.declared.report.Report.{Report}
use Rattle.gs_report.specs.Text.{report_text}
use Rattle.gs_scenario.specs.Keys.{is_one_of}
use Rattle.gs_scenario.specs.PlanOf.{capacity_key, workers_key}
use Rattle.gs_streams.specs.Inputs.{IsScenario}
use Rattle.gs_seats.specs.Reports.{IsReport}

-- the table without these keys
abbrev pub but_for : List (List ℕ) → Members → Members
but_for keys no_members = no_members
but_for keys (member key d rest) = if is_one_of keys key then but_for keys rest else member key d (but_for keys rest)

-- the keys of the top table that say how a scenario is run: `workers` and `capacity`
abbrev pub running_keys : List (List ℕ)
running_keys = workers_key.name ∷ capacity_key.name ∷ []

-- Two texts are TOML, and their top tables hold the same at all keys but `workers` and `capacity`.
pub record DifferInRunning (text other : List ℕ) : Type 0 where
  pub members : Members
  pub others : Members
  pub is : parse_document text ≡ Some members
  pub other_is : parse_document other ≡ Some others
  pub same : but_for running_keys members ≡ but_for running_keys others

-- Reports of two such scenarios have one text, whichever limits are set for each.
abbrev pub TextsAreOne : Type 0
TextsAreOne =
    (limits others : Limits) (bytes more : List ℕ) (plan other : Plan) (report another : Report)
    → DifferInRunning bytes more
    → IsScenario limits (Some bytes) plan
    → IsScenario others (Some more) other
    → IsReport plan report
    → IsReport other another
    → report_text plan report ≡ report_text other another
