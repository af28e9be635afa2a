-- How a run of the program ends, and what it has written by then.
use Rattle.std.specs.Prelude.{◌≡◌, ◌≢◌, ℕ, List, [], ◌∷◌, ◌++◌, codes, Option, IfSome}
use Rattle.std.specs.Io.KnownBytes.{Appends, Keeps}
use Rattle.gs_plan.specs.declared.limits.Limits.{Limits}
use Rattle.gs_plan.specs.declared.plan.Plan.{Plan}
use Rattle.gs_scenario.specs.declared.fault.ScenarioFault.{ScenarioFault}
use Rattle.gs_scenario.specs.Refusal.{number_of}
use Rattle.gs_streams.specs.Inputs.{IsRefusal, IsScenario}
use Rattle.gs_streams.specs.Statuses.{status_of}
use Rattle.gs_streams.specs.Streams.{AppendsFront}
use Rattle.gs_check.specs.declared.answer.Verdict.{Verdict}
use Rattle.gs_check.specs.declared.answer.Verdict.TheVariants as verdicts
use Rattle.gs_streams.specs.declared.exit_status.ExitStatus.{ExitStatus}
use Rattle.gs_streams.specs.declared.exit_status.ExitStatus.TheVariants as ends
use Rattle.gs_check.specs.FirstLine.{first_line}
use Rattle.gs_check.specs.Summary.{summary}
use Rattle.gs_check.specs.Words.{SaysWhy}

-- ---- answers

-- the refusal's number and place on a line of their own, and then its reason in words
pub record IsRefusalText (fault : ScenarioFault) (answer : List ℕ) : Type 0 where
  pub words : List ℕ
  pub text : answer ≡ (first_line fault ++ codes "\n") ++ words
  pub reason : SaysWhy fault words

-- the answer when out of memory for any other
abbrev pub no_memory_answer : List ℕ
no_memory_answer =
    codes "32\nthere is not enough memory to read the scenario, or to say what is wrong with it\n"

-- the answer is the summary of the plan that the whole input describes within these limits
pub record Accepts (limits : Limits) (input : Option (List ℕ)) (answer : List ℕ) : Type 0 where
  pub plan : Plan
  pub scenario : IsScenario limits input plan
  pub text : answer ≡ summary plan

-- The answer begins with the number and the place of the input's refusal, and words follow. The refusal is not 32, out of
-- memory.
pub record Refuses (limits : Limits) (input : Option (List ℕ)) (answer : List ℕ) : Type 0 where
  pub fault : ScenarioFault
  pub refused : IfSome input (λ bytes. IsRefusal limits bytes fault)
  pub judged : number_of fault ≢ 32
  pub text : IsRefusalText fault answer

-- what an answer with this verdict says about an input
abbrev pub Answers : Limits → Verdict → Option (List ℕ) → List ℕ → Type 0
Answers limits verdicts.Accepted input answer = Accepts limits input answer
Answers limits verdicts.Refused input answer = Refuses limits input answer
Answers limits verdicts.NoMemory input answer = answer ≡ no_memory_answer

-- ---- ends

-- For each end: the reader had `input` left to read. Each writer held the first text before, and the second after.

-- the answer to the input is on the output, and nothing more on errors
pub record Answered (limits : Limits) (verdict : Verdict) (input output output' errors errors' : Option (List ℕ)) : Type 0 where
  pub answer : List ℕ
  pub answers : Answers limits verdict input answer
  pub text : Appends output output' answer
  pub silent : Keeps errors errors'

-- This end stands for a read that failed, or an input that had not ended after `MOST_READS` reads. No field says that either
-- happened: `input failed` is on errors, or a front of it, and nothing more on the output.
pub record InputFailed (output output' errors errors' : Option (List ℕ)) : Type 0 where
  pub line : AppendsFront errors errors' (codes "input failed\n")
  pub silent : Keeps output output'

-- A front of the answer to the input is on the output, maybe all of it. `output failed` is on errors, or a front of it.
-- No field says that a write failed.
pub record OutputFailed (limits : Limits) (input output output' errors errors' : Option (List ℕ)) : Type 0 where
  pub verdict : Verdict
  pub answer : List ℕ
  pub answers : Answers limits verdict input answer
  pub text : AppendsFront output output' answer
  pub line : AppendsFront errors errors' (codes "output failed\n")

-- the end for an answer that is on the output
abbrev pub end_of : Verdict → ExitStatus
end_of verdicts.Accepted = ends.Done
end_of verdicts.Refused = ends.Refused
end_of verdicts.NoMemory = ends.Unfinished

-- What each end says. An answer is never cut off, and the command has checked its arguments.
abbrev pub EndsAs : Limits → ExitStatus → (input output output' errors errors' : Option (List ℕ)) → Type 0
EndsAs limits ends.Done input output output' errors errors' =
    Answered limits verdicts.Accepted input output output' errors errors'
EndsAs limits ends.Refused input output output' errors errors' =
    Answered limits verdicts.Refused input output output' errors errors'
EndsAs limits ends.Unfinished input output output' errors errors' =
    Answered limits verdicts.NoMemory input output output' errors errors'
EndsAs limits ends.CutOff input output output' errors errors' = ⊥
EndsAs limits ends.InputFailed input output output' errors errors' = InputFailed output output' errors errors'
EndsAs limits ends.OutputFailed input output output' errors errors' = OutputFailed limits input output output' errors errors'
EndsAs limits ends.WrongArguments input output output' errors errors' = ⊥

-- some end of the program, and the status for it
pub record EndsSomehow (limits : Limits) (status : ℕ) (input output output' errors errors' : Option (List ℕ)) : Type 0 where
  pub ended : ExitStatus
  pub ends : EndsAs limits ended input output output' errors errors'
  pub status_is : status ≡ status_of ended
