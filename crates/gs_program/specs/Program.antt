-- How a run of a program ends, and what it has written by then.
use Rattle.std.specs.Prelude.{◌≡◌, ◌++◌, ℕ, Bool, false, true, List, [], codes, decimal, Option, Some, None, IfSome, ◌⊎◌}
use Rattle.std.specs.Io.KnownBytes.{Appends, IsAtEnd, Keeps}
use Rattle.gs_scenario.specs.declared.fault.ScenarioFault.{ScenarioFault}
use Rattle.gs_scenario.specs.declared.fault.ScenarioFault.TheVariants.{NoMemory}
use Rattle.gs_base.specs.declared.names.PeerNo.{PeerNo}
use Rattle.gs_plan.specs.declared.limits.Limits.{Limits}
use Rattle.gs_plan.specs.declared.plan.Plan.{Plan}
use Rattle.gs_seats.specs.declared.fault.NetFault.{NetFault}
use Rattle.gs_seats.specs.declared.fault.NetFault.TheVariants as faults
use Rattle.gs_report.specs.declared.report.Report.{Report}
use Rattle.gs_streams.specs.declared.exit_status.ExitStatus.{ExitStatus}
use Rattle.gs_streams.specs.declared.exit_status.ExitStatus.TheVariants as ends
use Rattle.gs_scenario.specs.Refusal.{refusal_text}
use Rattle.gs_seats.specs.Faults.{number_of}
use Rattle.gs_report.specs.Text.{name_of}
use Rattle.gs_seats.specs.Reports.{IsReport}
use Rattle.gs_streams.specs.Inputs.{IsRefusal, IsScenario}
use Rattle.gs_streams.specs.Statuses.{status_of}
use Rattle.gs_streams.specs.Streams.{AppendsFront}

abbrev pub refusal_line : ScenarioFault → List ℕ
refusal_line fault = codes "scenario refused: " ++ refusal_text fault ++ codes "\n"

-- The line of the refusal was added to errors, or a front of it. Instead, this may be the line for out of memory.
pub record TellsRefusal (fault : ScenarioFault) (errors errors' : Option (List ℕ)) : Type 0 where
  pub told : ScenarioFault
  pub which : (told ≡ fault) ⊎ (told ≡ NoMemory)
  pub line : AppendsFront errors errors' (refusal_line told)

-- a fault that a run may have: a run that needs no threads can only be out of memory
abbrev pub MayMeet : (needs_threads : Bool) → NetFault → Type 0
MayMeet needs_threads fault = needs_threads ≡ false → number_of fault ≡ 24

-- the peer that a fault of a run names
abbrev pub peer_of : NetFault → Option PeerNo
peer_of (faults.NoMemory peer) = peer
peer_of faults.NoThread = None

-- the name of a peer after a space
abbrev pub spaced_name : Plan → Option PeerNo → List ℕ
spaced_name plan None = []
spaced_name plan (Some p) = codes " " ++ name_of plan p

-- `run refused: NUMBER`, and the name of the peer where the fault names one
abbrev pub run_refusal_line : Plan → NetFault → List ℕ
run_refusal_line plan fault =
    codes "run refused: " ++ decimal (number_of fault) ++ spaced_name plan (peer_of fault) ++ codes "\n"

-- the same fault without its peer
abbrev pub nameless : NetFault → NetFault
nameless (faults.NoMemory peer) = faults.NoMemory None
nameless faults.NoThread = faults.NoThread

-- the line of the fault was added to errors, or a front of it; that line may have the fault's number and no name
pub record TellsFault (plan : Plan) (fault : NetFault) (errors errors' : Option (List ℕ)) : Type 0 where
  pub told : NetFault
  pub which : (told ≡ fault) ⊎ (told ≡ nameless fault)
  pub line : AppendsFront errors errors' (run_refusal_line plan told)

-- For each end: the reader had `input` left to read before, and `input'` after. Each writer held the first text before, and
-- the second after.

-- the line of the scenario's refusal is on errors, or a front of it, and nothing more on the output
pub record ScenarioRefused (limits : Limits) (input output output' errors errors' : Option (List ℕ)) : Type 0 where
  pub fault : ScenarioFault
  pub refused : IfSome input (λ bytes. IsRefusal limits bytes fault)
  pub line : AppendsFront errors errors' (refusal_line fault)
  pub silent : Keeps output output'

-- A run of the scenario met a fault, or memory ran out for the text about the run. The line of that is on errors, or a
-- front of it, and the output has nothing more.
pub record RunRefused (limits : Limits) (needs_threads : Bool)
    (input output output' errors errors' : Option (List ℕ)) : Type 0 where
  pub plan : Plan
  pub scenario : IsScenario limits input plan
  pub fault : NetFault
  pub met : MayMeet needs_threads fault
  pub tells : TellsFault plan fault errors errors'
  pub silent : Keeps output output'

-- The line `input failed` is on errors, or a front of it, and the output has nothing more. (No field says that a read
-- failed, or that the input had not ended after `MOST_READS` reads.)
pub record InputFailed (output output' errors errors' : Option (List ℕ)) : Type 0 where
  pub line : AppendsFront errors errors' (codes "input failed\n")
  pub silent : Keeps output output'

-- for a program that takes scenarios within these limits, and writes this text about a report
module _ (limits : Limits) (text_of : Plan → Report → List ℕ) where
  -- nothing of the scenario is left to read; the whole text about its run is on the output, and nothing more on errors
  pub record Reported (input input' output output' errors errors' : Option (List ℕ)) : Type 0 where
    pub plan : Plan
    pub scenario : IsScenario limits input plan
    pub at_end : IsAtEnd input'
    pub report : Report
    pub run : IsReport plan report
    pub text : Appends output output' (text_of plan report)
    pub silent : Keeps errors errors'

  -- A front of the text about a run of the scenario is on the output, and one of the line `output failed` on errors.
  -- (No field says that a write failed.)
  pub record OutputFailed (input output output' errors errors' : Option (List ℕ)) : Type 0 where
    pub plan : Plan
    pub scenario : IsScenario limits input plan
    pub report : Report
    pub run : IsReport plan report
    pub text : AppendsFront output output' (text_of plan report)
    pub line : AppendsFront errors errors' (codes "output failed\n")

  -- A run of the scenario ended, and memory ran out for the rest of its text. A front of the text is on the output. The
  -- line for out of memory is on errors, or a front of it.
  pub record TextRefused (input output output' errors errors' : Option (List ℕ)) : Type 0 where
    pub plan : Plan
    pub scenario : IsScenario limits input plan
    pub report : Report
    pub run : IsReport plan report
    pub text : AppendsFront output output' (text_of plan report)
    pub line : AppendsFront errors errors' (codes "run refused: 24\n")

-- for a program that takes scenarios within these limits, and writes this text, in parts or as a whole
module _ (limits : Limits) (text_of : Plan → Report → List ℕ) (in_parts : Bool) where
  -- What each end says, for runs that need threads or runs that need none. The command has checked its arguments.
  abbrev pub EndsAs : (needs_threads : Bool) → ExitStatus → (input input' output output' errors errors' : Option (List ℕ))
      → Type 0
  EndsAs needs ends.Done input input' output output' errors errors' =
      Reported limits text_of input input' output output' errors errors'
  EndsAs needs ends.Refused input input' output output' errors errors' =
      ScenarioRefused limits input output output' errors errors'
  EndsAs needs ends.Unfinished input input' output output' errors errors' =
      RunRefused limits needs input output output' errors errors'
  EndsAs needs ends.CutOff input input' output output' errors errors' =
      (in_parts ≡ true) × TextRefused limits text_of input output output' errors errors'
  EndsAs needs ends.InputFailed input input' output output' errors errors' = InputFailed output output' errors errors'
  EndsAs needs ends.OutputFailed input input' output output' errors errors' =
      OutputFailed limits text_of input output output' errors errors'
  EndsAs needs ends.WrongArguments input input' output output' errors errors' = ⊥

  -- the process ends with the status of an end, and the streams are as that end says
  pub record EndsWith (needs_threads : Bool) (status : ℕ) (input input' output output' errors errors' : Option (List ℕ))
      : Type 0 where
    pub ended : ExitStatus
    pub ends : EndsAs needs_threads ended input input' output output' errors errors'
    pub status_is : status ≡ status_of ended
