-- The command `scores`: what its options ask for, and how it ends.
use Rattle.std.specs.Prelude.{ℕ, Bool, true, ◌&&◌, if◌then◌else◌, is_some, List, [], ◌∷◌, ◌++◌, codes, Option}
use Rattle.std.specs.Prelude.{Some, None, option_map}
use Rattle.gs_plan.specs.declared.plan.Plan.{Plan}
use Rattle.gs_report.specs.declared.report.Report.{Report}
use Rattle.gs_program.specs.Asked.{EndsAsked, large, progress}
use Rattle.gs_program.specs.Options.{Given, Rule, has_option, once, once_with_value, options_given, same, value_of}
use Rattle.gs_trace.specs.declared.wanted.RoundSpan.{RoundSpan}
use Rattle.gs_snapshots.specs.declared.wanted.Form.{Form}
use Rattle.gs_snapshots.specs.declared.wanted.Form.TheVariants as form
use Rattle.gs_snapshots.specs.Scores.{scores_text}
use Rattle.gs_snapshots.specs.SummaryText.{summary_text}
use Rattle.gs_snapshots.specs.Wishes.{Wishes, wishes_of}
use Rattle.gossip_sim.specs.declared.scores.Asked.{Asked as StoredAsked}
use Rattle.gossip_sim.specs.TraceCommand.{rounds_given}

-- the options that it takes
abbrev pub options : List Rule
options =
    large
    ∷ progress
    ∷ once_with_value (codes "--peer")
    ∷ once_with_value (codes "--neighbour")
    ∷ once_with_value (codes "--rounds")
    ∷ once_with_value (codes "--format")
    ∷ once (codes "--summary")
    ∷ []

-- which scores are asked for, and whether they are summed up
pub record Asked : Type 0 where
  pub wishes : Wishes
  pub is_summary : Bool

-- what the value in memory asks for
abbrev pub asked_of : StoredAsked → Asked
asked_of x = record { wishes = wishes_of x.wanted; is_summary = x.is_summary }

-- the form that a word names
abbrev pub form_in : List ℕ → Option Form
form_in word =
    if same word (codes "json") then Some form.Json
    else if same word (codes "csv") then Some form.Csv
    else None

-- The form that `--format` asks for, and None where its value names none. Without the option, no form is asked for.
abbrev pub form_given : Option (List ℕ) → Option (Option Form)
form_given None = Some None
form_given (Some word) = option_map (λ (f : Form). Some f) (form_in word)

-- which scores these options ask for, with these rounds and in this form
abbrev pub wishes_with : List Given → Option RoundSpan → Option Form → Wishes
wishes_with given rounds f = record {
  peer = value_of given (codes "--peer");
  neighbour = value_of given (codes "--neighbour");
  rounds = rounds;
  form = f;
}

-- a summary has no form
abbrev pub asked_with :
    List Given → (is_summary : Bool) → Option (Option RoundSpan) → Option (Option Form) → Option Asked
asked_with given is_summary None f = None
asked_with given is_summary (Some rounds) None = None
asked_with given is_summary (Some rounds) (Some f) =
    if is_summary && is_some f then None
    else Some (record { wishes = wishes_with given rounds f; is_summary = is_summary })

-- which scores options ask for, if each value is one that its option takes
abbrev pub wishes_for : List Given → Option Asked
wishes_for given =
    asked_with given (has_option given (codes "--summary")) (rounds_given (value_of given (codes "--rounds")))
    (form_given (value_of given (codes "--format")))

-- the line that is written for wrong arguments
unfoldable pub usage : List ℕ
usage =
    codes "usage: gossip_scores [--large] [--progress] [--peer NAME] [--neighbour NAME] [--rounds A..B] "
    ++ codes "[--format json|csv | --summary]\n"

-- what is printed
abbrev pub printed_for : Asked → Plan → Report → List ℕ
printed_for a plan report =
    if a.is_summary then summary_text a.wishes plan report else scores_text a.wishes plan report

-- how it ends with these arguments
abbrev pub EndsFor :
    List (List ℕ)
    → (status : ℕ) (input input' output output' errors errors' : Option (List ℕ))
    → Type 0
EndsFor arguments status input input' output output' errors errors' =
    EndsAsked usage printed_for true wishes_for (options_given options arguments) status
    input input' output output' errors errors'
