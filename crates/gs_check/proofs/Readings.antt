-- What is answered after a reading.
use Rattle.std.proofs.Common.{◌≡◌, ◌≢◌, ◌<◌, ℕ, List, length, refl, sym, subst, Option, Some, None, IfSome, Result, Ok, Err, IfOk, IfErr, Vec, Global}
use Rattle.gs_scenario.specs.Refusal.{number_of}
use Rattle.gs_streams.specs.declared.ReadFault.{ReadFault}
use Rattle.gs_streams.specs.declared.ReadFault.TheVariants as reads
use Rattle.gs_streams.specs.Inputs.{IsRefusal, IsScenario, input_too_long, too_long}
use Rattle.gs_plan.specs.Limits.{longest_input}
use Rattle.gs_plan.specs.declared.limits.Limits.{Limits}
use Rattle.gs_plan.specs.declared.plan.Plan.{Plan}
use Rattle.gs_check.specs.declared.answer.Answer.{Answer}
use Rattle.gs_check.specs.declared.answer.NoAnswer.{NoAnswer}
use Rattle.gs_check.specs.declared.answer.NoAnswer.TheVariants as causes
use Rattle.gs_check.specs.declared.answer.Verdict.{Verdict}
use Rattle.gs_check.specs.declared.answer.Verdict.TheVariants as verdicts
use Rattle.gs_check.specs.Program.{Accepts, Answers, IsRefusalText}
use Rattle.gs_check.specs.Readings.{AnswersText, AnswersUnread, IsReading}
use Rattle.gs_check.specs.Summary.{summary}

-- ---- of an input

of_input : (input : Option (List ℕ)) (bytes : List ℕ) (P : List ℕ → Type 0) → IfSome input (λ given. bytes ≡ given) → P bytes → IfSome input P
of_input None bytes P whole p = tt
of_input (Some given) bytes P whole p = subst P whole p

of_each : (input : Option (List ℕ)) (P Q : List ℕ → Type 0) → ((bytes : List ℕ) → P bytes → Q bytes) → IfSome input P → IfSome input Q
of_each None P Q f p = tt
of_each (Some given) P Q f p = f given p

scenario_of : (limits : Limits) (input : Option (List ℕ)) (bytes text : List ℕ) → IfSome input (λ given. bytes ≡ given) → Accepts limits (Some bytes) text → Accepts limits input text
scenario_of limits input bytes text whole says = record {
  plan = says.plan;
  scenario = record {
    text = says.scenario.text;
    whole = of_input input bytes (λ given. says.scenario.text ≡ given) whole says.scenario.whole;
    short = says.scenario.short;
    readable = says.scenario.readable;
    described = says.scenario.described;
  };
  text = says.text;
}

answers_input : (limits : Limits) (verdict : Verdict) (input : Option (List ℕ)) (bytes text : List ℕ) → IfSome input (λ given. bytes ≡ given) → Answers limits verdict (Some bytes) text → Answers limits verdict input text
answers_input limits verdicts.Accepted input bytes text whole says = scenario_of limits input bytes text whole says
answers_input limits verdicts.Refused input bytes text whole says = record {
  fault = says.fault;
  refused = of_input input bytes (λ given. IsRefusal limits given says.fault) whole says.refused;
  judged = says.judged;
  text = says.text;
}
answers_input limits verdicts.NoMemory input bytes text whole says = says

-- what is answered to an input that is too long
too_long_answers : (limits : Limits) (input : Option (List ℕ)) (answer : Answer) → IfSome input (λ given. longest_input limits < length given)
    → (answer.verdict ≡ verdicts.Refused) × (number_of (input_too_long limits) ≢ 32) × IsRefusalText (input_too_long limits) answer.text.items → Answers limits answer.verdict input answer.text.items
too_long_answers limits input answer far (is, judged, says) =
    subst (λ (verdict : Verdict). Answers limits verdict input answer.text.items) (sym is)
    (record {
      fault = input_too_long limits;
      refused = of_each input (λ given. longest_input limits < length given) (λ bytes. IsRefusal limits bytes (input_too_long limits)) (λ given beyond. too_long beyond refl) far;
      judged = judged;
      text = says;
    })

pub answers_reading : (limits : Limits) (input : Option (List ℕ)) (reading : Result (Vec ℕ Global) ReadFault) (made : Result Answer NoAnswer) → IfOk reading (λ bytes. AnswersText limits bytes.items made)
    → IfErr reading (λ fault. AnswersUnread limits fault made) → IsReading limits input reading → IfOk made (λ answer. Answers limits answer.verdict input answer.text.items)
answers_reading limits input (Ok bytes) (Ok answer) read unread whole = answers_input limits answer.verdict input bytes.items answer.text.items whole read.1
answers_reading limits input (Ok bytes) (Err why) read unread whole = tt
answers_reading limits input (Err reads.Failed) made read unread whole = subst (λ (m : Result Answer NoAnswer). IfOk m (λ answer. Answers limits answer.verdict input answer.text.items)) (sym unread) tt
answers_reading limits input (Err reads.TooLong) (Ok answer) read unread far = too_long_answers limits input answer far unread
answers_reading limits input (Err reads.TooLong) (Err why) read unread far = tt
answers_reading limits input (Err reads.NoMemory) made read unread whole = subst (λ (m : Result Answer NoAnswer). IfOk m (λ answer. Answers limits answer.verdict input answer.text.items)) (sym unread) tt

-- what is answered to a scenario that is accepted
pub accepted_answers : {E : Type 0} (limits : Limits) (bytes : List ℕ) (plan : Plan) (made : Result (Vec ℕ Global) E) (said : Result Answer NoAnswer) → IsScenario limits (Some bytes) plan
    → IfOk made (λ text. text.items ≡ summary plan) → IfOk made (λ text. said ≡ Ok (record { verdict = verdicts.Accepted; text = text })) → IfErr made (λ fault. said ≡ Err causes.NoMemory) → AnswersText limits bytes said
accepted_answers limits bytes plan (Ok text) said found summed ok none =
    subst (AnswersText limits bytes) (sym ok) ((λ same. absurd cc), record { plan = plan; scenario = found; text = summed })
accepted_answers limits bytes plan (Err fault) said found summed ok none = subst (AnswersText limits bytes) (sym none) refl
