-- What results from the reading of an input, and from an answer. Each of their outcomes has its own end of the program.
use Rattle.std.specs.Prelude.{◌≡◌, ◌≢◌, ◌<◌, ◌⊎◌, ⊤, ℕ, List, length, Option, Some, IfSome, Result, Ok, Err, Vec}
use Rattle.std.specs.Global.{Global}
use Rattle.gs_scenario.specs.declared.fault.ScenarioFault.{ScenarioFault}
use Rattle.gs_scenario.specs.Refusal.{number_of}
use Rattle.gs_streams.specs.declared.ReadFault.{ReadFault}
use Rattle.gs_streams.specs.declared.ReadFault.TheVariants as reads
use Rattle.gs_streams.specs.Inputs.{input_too_long}
use Rattle.gs_plan.specs.Limits.{longest_input}
use Rattle.gs_plan.specs.declared.limits.Limits.{Limits}
use Rattle.gs_check.specs.declared.answer.Answer.{Answer}
use Rattle.gs_check.specs.declared.answer.NoAnswer.{NoAnswer}
use Rattle.gs_check.specs.declared.answer.NoAnswer.TheVariants as causes
use Rattle.gs_check.specs.declared.answer.Verdict.TheVariants as verdicts
use Rattle.gs_streams.specs.declared.exit_status.ExitStatus.{ExitStatus}
use Rattle.gs_streams.specs.declared.exit_status.ExitStatus.TheVariants as ends
use Rattle.gs_check.specs.Program.{Answers, IsRefusalText, end_of}

-- it is a reading of this input: it has read all of it, or says that it is too long only where it is
abbrev pub IsReading : Limits → Option (List ℕ) → Result (Vec ℕ Global) ReadFault → Type 0
IsReading limits input (Ok bytes) = IfSome input (λ given. bytes.items ≡ given)
IsReading limits input (Err reads.Failed) = ⊤
IsReading limits input (Err reads.TooLong) = IfSome input (λ given. longest_input limits < length given)
IsReading limits input (Err reads.NoMemory) = ⊤

-- ---- answers

-- the answer is this refusal, which is not out of memory; or it was out of memory for the words
abbrev pub RefusesAs : ScenarioFault → Result Answer NoAnswer → Type 0
RefusesAs fault (Ok answer) =
    (answer.verdict ≡ verdicts.Refused) × (number_of fault ≢ 32) × IsRefusalText fault answer.text.items
RefusesAs fault (Err why) = why ≡ causes.NoMemory

-- the answer to an input that was not read to its end
abbrev pub AnswersUnread : Limits → ReadFault → Result Answer NoAnswer → Type 0
AnswersUnread limits reads.Failed made = made ≡ Err causes.InputFailed
AnswersUnread limits reads.TooLong made = RefusesAs (input_too_long limits) made
AnswersUnread limits reads.NoMemory made = made ≡ Err causes.NoMemory

-- the answer to the bytes of a whole input: a verdict, or out of memory
abbrev pub AnswersText : Limits → List ℕ → Result Answer NoAnswer → Type 0
AnswersText limits bytes (Ok answer) =
    (answer.verdict ≢ verdicts.NoMemory) × Answers limits answer.verdict (Some bytes) answer.text.items
AnswersText limits bytes (Err why) = why ≡ causes.NoMemory

-- ---- ends

-- the program ends as the answer says, or because the output failed
abbrev pub EndsFor : Result Answer NoAnswer → ExitStatus → Type 0
EndsFor (Ok answer) status = (status ≡ end_of answer.verdict) ⊎ (status ≡ ends.OutputFailed)
EndsFor (Err causes.InputFailed) status = status ≡ ends.InputFailed
EndsFor (Err causes.NoMemory) status = (status ≡ ends.Unfinished) ⊎ (status ≡ ends.OutputFailed)
