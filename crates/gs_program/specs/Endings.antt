-- What results from the reading of an input, and from the printing of a text. Each of their outcomes has its own end of the
-- program.
use Rattle.std.specs.Prelude.{◌≡◌, ℕ, List, codes, Option, Some, None, Result, Ok, Err}
use Rattle.gs_plan.specs.declared.limits.Limits.{Limits}
use Rattle.gs_plan.specs.declared.plan.Plan.{Plan}
use Rattle.gs_plan.specs.Plans.{IsInRange}
use Rattle.gs_scenario.specs.declared.fault.ScenarioFault.{ScenarioFault}
use Rattle.gs_scenario.specs.declared.fault.ScenarioFault.TheVariants.{NoMemory}
use Rattle.gs_streams.specs.declared.ReadFault.{ReadFault}
use Rattle.gs_streams.specs.declared.ReadFault.TheVariants as reads
use Rattle.gs_streams.specs.Inputs.{IsRefusal, IsScenario, input_too_long}
use Rattle.gs_streams.specs.Streams.{AppendsFront}
use Rattle.gs_streams.specs.declared.exit_status.ExitStatus.{ExitStatus}
use Rattle.gs_streams.specs.declared.exit_status.ExitStatus.TheVariants as ends
use Rattle.gs_seats.specs.declared.fault.NetFault.TheVariants as faults
use Rattle.gs_program.specs.declared.printer.PrintFault.{PrintFault}
use Rattle.gs_program.specs.declared.printer.PrintFault.TheVariants as prints
use Rattle.gs_program.specs.Program.{TellsFault, TellsRefusal}

-- errors held the first text before, and the second after

-- ---- readings

-- How the program goes on after a scenario was read as a plan, or refused. With a plan, nothing more is on errors. A refused
-- scenario ends the program as such, and the line of its refusal is on errors.
abbrev pub GoesOn : Result Plan ScenarioFault → Result Plan ExitStatus → (errors errors' : Option (List ℕ)) → Type 0
GoesOn (Ok plan) result errors errors' = (result ≡ Ok plan) × (errors' ≡ errors)
GoesOn (Err fault) result errors errors' = (result ≡ Err ends.Refused) × TellsRefusal fault errors errors'

-- How the program ends where an input was not read to its end. Only `Failed` ends it as a failed input, and each other fault
-- as a refused scenario.
abbrev pub EndsUnread : Limits → ReadFault → Result Plan ExitStatus → (errors errors' : Option (List ℕ)) → Type 0
EndsUnread limits reads.Failed result errors errors' =
    (result ≡ Err ends.InputFailed) × AppendsFront errors errors' (codes "input failed\n")
EndsUnread limits reads.TooLong result errors errors' = GoesOn (Err (input_too_long limits)) result errors errors'
EndsUnread limits reads.NoMemory result errors errors' = GoesOn (Err NoMemory) result errors errors'

-- what a text is read as: its plan, or its refusal
abbrev pub IsPlanned : Limits → List ℕ → Result Plan ScenarioFault → Type 0
IsPlanned limits text (Ok plan) = IsScenario limits (Some text) plan × IsInRange plan
IsPlanned limits text (Err fault) = IsRefusal limits text fault

-- how the program goes on after a text that was read whole
pub record GoesOnWith (limits : Limits) (text : List ℕ) (result : Result Plan ExitStatus)
    (errors errors' : Option (List ℕ)) : Type 0 where
  pub planned : Result Plan ScenarioFault
  pub is_planned : IsPlanned limits text planned
  pub goes_on : GoesOn planned result errors errors'

-- ---- printing

-- how the program ends where a text was not printed to its end
abbrev pub EndsUnprinted : Plan → PrintFault → ExitStatus → (errors errors' : Option (List ℕ)) → Type 0
EndsUnprinted plan prints.NoMemory status errors errors' =
    (status ≡ ends.Unfinished) × TellsFault plan (faults.NoMemory None) errors errors'
EndsUnprinted plan prints.CutOff status errors errors' =
    (status ≡ ends.CutOff) × AppendsFront errors errors' (codes "run refused: 24\n")
EndsUnprinted plan prints.WriteFailed status errors errors' =
    (status ≡ ends.OutputFailed) × AppendsFront errors errors' (codes "output failed\n")

abbrev pub EndsPrinted : {T : Type 0} → Plan → Result T PrintFault → ExitStatus → (errors errors' : Option (List ℕ)) → Type 0
EndsPrinted plan (Ok done) status errors errors' = (status ≡ ends.Done) × (errors' ≡ errors)
EndsPrinted plan (Err fault) status errors errors' = EndsUnprinted plan fault status errors errors'
