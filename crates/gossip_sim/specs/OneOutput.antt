-- What two runs of the program write.
use Rattle.std.specs.Prelude.{◌≡◌, ℕ, Bool, false, List, Option}
use Rattle.std.specs.Io.KnownBytes.{Appends}
use Rattle.gs_plan.specs.declared.limits.Limits.{Limits}
use Rattle.gs_report.specs.Text.{report_text}
use Rattle.gs_laws.specs.Runs.{AreAlike}
use Rattle.gs_laws.specs.Scenarios.{DifferInRunning}
use Rattle.gs_streams.specs.declared.exit_status.ExitStatus.TheVariants as ends
use Rattle.gs_program.specs.Program.{EndsAs, Reported}

-- Two runs add the same bytes to their outputs. This says nothing about an output with unknown bytes, such as the standard
-- output of a process.
abbrev pub AddTheSame : (output output' other other' : Option (List ℕ)) → Type 0
AddTheSame output output' other other' = (text : List ℕ) × Appends output output' text × Appends other other' text

-- Two runs both report, and their plans differ at most in `workers` and `capacity`. Then the texts of their reports are the
-- same, and both runs add the same bytes.
abbrev pub AlikePlansWriteTheSame : Type 0
AlikePlansWriteTheSame =
    (limits others : Limits)
    (input input' output output' errors errors' : Option (List ℕ))
    (more more' other other' faults faults' : Option (List ℕ))
    (mine : Reported limits report_text input input' output output' errors errors')
    (theirs : Reported others report_text more more' other other' faults faults')
    → AreAlike mine.plan theirs.plan
    → (report_text mine.plan mine.report ≡ report_text theirs.plan theirs.report)
    × AddTheSame output output' other other'

-- Two runs, each over links or without, both end with the status of a report. Their scenarios differ at most in `workers`
-- and `capacity`. Then the texts of their reports are the same, and both runs add the same bytes.
abbrev pub AlikeScenariosWriteTheSame : Type 0
AlikeScenariosWriteTheSame =
    (limits others : Limits)
    (input input' output output' errors errors' : Option (List ℕ))
    (more more' other other' faults faults' : Option (List ℕ))
    (first_needs_threads second_needs_threads : Bool)
    (mine : EndsAs limits report_text false first_needs_threads ends.Done input input' output output' errors errors')
    (theirs : EndsAs others report_text false second_needs_threads ends.Done more more' other other' faults faults')
    → DifferInRunning mine.scenario.text theirs.scenario.text
    → (report_text mine.plan mine.report ≡ report_text theirs.plan theirs.report)
    × AddTheSame output output' other other'
