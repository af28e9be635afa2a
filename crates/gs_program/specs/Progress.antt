-- Lines about how far a run is, and how a program ends that may have written some.
use Rattle.std.specs.Prelude.{◌≡◌, ◌++◌, ℕ, suc, Bool, true, false, if◌then◌else◌, List, [], ◌∷◌, codes, decimal, map, Option}
use Rattle.std.specs.Borrow.{GName}
use Rattle.gs_base.specs.declared.names.PeerNo.{PeerNo}
use Rattle.gs_direct.specs.Stages.{AreFirstStages, AreStages}
use Rattle.gs_direct.specs.declared.stages.Stage.{Stage}
use Rattle.gs_plan.specs.declared.limits.Limits.{Limits}
use Rattle.gs_plan.specs.declared.plan.Plan.{Plan}
use Rattle.gs_program.specs.Program.{EndsAs, EndsWith}
use Rattle.gs_streams.specs.declared.exit_status.ExitStatus.{ExitStatus}
use Rattle.gs_streams.specs.declared.exit_status.ExitStatus.TheVariants as ends
use Rattle.gs_report.specs.declared.finished.Finished.{Finished}
use Rattle.gs_report.specs.declared.report.Report.{Report}
use Rattle.gs_seats.specs.Reports.{IsReport}
use Rattle.gs_seats.specs.Rounds.{trace_of}
use Rattle.gs_streams.specs.Inputs.{IsScenario}
use Rattle.gs_streams.specs.Statuses.{status_of}
use Rattle.gs_streams.specs.Streams.{AppendsFront}

-- ---- lines

-- `round R of N`
abbrev pub round_words : ℕ → ℕ → List ℕ
round_words round rounds = codes "round " ++ decimal round ++ codes " of " ++ decimal rounds

-- `round R of N, D deliveries`
abbrev pub progress_line : ℕ → Stage → List ℕ
progress_line rounds stage =
    round_words stage.round rounds ++ codes ", " ++ decimal stage.deliveries ++ codes " deliveries\n"

-- a line of each stage in order, or a front of it, was added to errors
abbrev pub TellsAll : ℕ → List Stage → (errors errors' : Option (List ℕ)) → Type 0
TellsAll rounds [] errors errors' = errors' ≡ errors
TellsAll rounds (stage ∷ stages) errors errors' =
    (between : Option (List ℕ))
    × AppendsFront errors between (progress_line rounds stage)
    × TellsAll rounds stages between errors'

-- these stages, if they are wanted
abbrev pub if_wanted : Bool → List Stage → List Stage
if_wanted wanted stages = if wanted then stages else []

-- ---- the gauge that writes lines

-- before its first stage, a gauge wrote to this
pub record ProgressStart : Type 0 where
  pub name : GName
  pub wanted : Bool
  pub rounds : ℕ
  pub errors : Option (List ℕ)

-- since then, it has added lines to errors
pub record HasToldSince (start : ProgressStart) (name : GName) (wanted : Bool) (rounds : ℕ) (stages : List Stage)
    (errors : Option (List ℕ)) : Type 0 where
  pub name_is : name ≡ start.name
  pub wanted_is : wanted ≡ start.wanted
  pub rounds_is : rounds ≡ start.rounds
  pub lines : TellsAll rounds (if_wanted wanted stages) start.errors errors

-- ---- ends

-- these are the stages of all rounds of a run with a report
abbrev pub AreOfReport : Plan → List Stage → Type 0
AreOfReport plan stages =
    (report : Report) × IsReport plan report
    × AreStages plan (trace_of (map (λ (x : PeerNo × Finished). x.1) report.peers.items)) (suc plan.rounds) stages

-- If lines are wanted, a line or a front of it was added to errors for each of some first rounds of a run of this plan. For a
-- run that has ended there is one for each round. If no lines are wanted, nothing was added.
pub record HasProgress (wanted : Bool) (plan : Plan) (ended : Bool) (errors errors' : Option (List ℕ)) : Type 0 where
  pub stages : List Stage
  pub lines : TellsAll plan.rounds (if_wanted wanted stages) errors errors'
  pub first : AreFirstStages plan stages
  pub whole : ended ≡ true → AreOfReport plan stages

-- a program that ends so has begun to run its scenario
abbrev pub has_begun : ExitStatus → Bool
has_begun ends.Done = true
has_begun ends.Refused = false
has_begun ends.Unfinished = true
has_begun ends.CutOff = true
has_begun ends.InputFailed = false
has_begun ends.OutputFailed = true
has_begun ends.WrongArguments = false

-- a program that ends so has run its scenario to the end
abbrev pub has_ended : ExitStatus → Bool
has_ended ends.Done = true
has_ended ends.Refused = false
has_ended ends.Unfinished = false
has_ended ends.CutOff = true
has_ended ends.InputFailed = false
has_ended ends.OutputFailed = true
has_ended ends.WrongArguments = false

-- A run has added its lines to errors. Without a run, nothing was added.
abbrev pub AddsLines : (was_run : Bool) → Limits → (ended : Bool) → (input errors errors' : Option (List ℕ)) → Type 0
AddsLines false limits ended input errors errors' = errors' ≡ errors
AddsLines true limits ended input errors errors' =
    (plan : Plan) × IsScenario limits input plan × HasProgress true plan ended errors errors'

-- for a program that takes scenarios within these limits, and writes this text, in parts or as a whole
module _ (limits : Limits) (text_of : Plan → Report → List ℕ) (in_parts : Bool) (needs_threads : Bool) where
  -- it has written the lines of its run, if there was one, and then it ends as one that writes none
  pub record EndsAfter (status : ExitStatus) (input input' output output' errors errors' : Option (List ℕ)) : Type 0 where
    pub noted : Option (List ℕ)
    pub lines : AddsLines (has_begun status) limits (has_ended status) input errors noted
    pub ends : EndsAs limits text_of in_parts needs_threads status input input' output output' noted errors'

  -- how a program ends that writes such lines only if they are wanted
  abbrev pub EndsShowing : (wanted : Bool) → ExitStatus → (input input' output output' errors errors' : Option (List ℕ))
      → Type 0
  EndsShowing false status input input' output output' errors errors' =
      EndsAs limits text_of in_parts needs_threads status input input' output output' errors errors'
  EndsShowing true status input input' output output' errors errors' =
      EndsAfter status input input' output output' errors errors'

  -- the process ends with the status of such an end
  pub record ExitsAfter (status : ℕ) (input input' output output' errors errors' : Option (List ℕ)) : Type 0 where
    pub ended : ExitStatus
    pub ends : EndsAfter ended input input' output output' errors errors'
    pub status_is : status ≡ status_of ended

  abbrev pub ExitsShowing : (wanted : Bool) → ℕ → (input input' output output' errors errors' : Option (List ℕ)) → Type 0
  ExitsShowing false status input input' output output' errors errors' =
      EndsWith limits text_of in_parts needs_threads status input input' output output' errors errors'
  ExitsShowing true status input input' output output' errors errors' =
      ExitsAfter status input input' output output' errors errors'
