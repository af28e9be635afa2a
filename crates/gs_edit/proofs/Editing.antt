-- Editing, argument by argument.
use Rattle.std.proofs.Common.{◌≡◌, ◌+◌, ◌<◌, ◌≤◌, ◌∙◌, ℕ, List, String, Global, Result, Ok, Err, IfErr, Some, drop, get_or, length, map, refl, string_bytes, sym, ap}
use Rattle.std.proofs.lemmas.List.{drop_all, drop_more}
use Rattle.std.specs.Result.{IsErrAnd}
use Rattle.toml.specs.Data.{Members}
use Rattle.toml.specs.Parse.{parse_document}
use Rattle.gs_edit.specs.Edits.{and_then, edited, edited_by}
use Rattle.gs_edit.specs.Endings.{Explains, Gives}
use Rattle.gs_edit.specs.Program.{IsNotMade}
use Rattle.gs_edit.specs.declared.edits.EditFault.{EditFault}
use Rattle.gs_edit.specs.declared.edits.Refusal.TheVariants.{Edit, NoToml, NotWritable, TooLong}
use Rattle.gs_edit.specs.declared.edits.NoChange.{NoChange}
use Rattle.gs_edit.specs.declared.edits.NoChange.TheVariants.{InputFailed, NoMemory, Refused}

-- an error that a `?` passes on
pub gives_err : {A B : Type 0} (f : A → B) (r : Result A NoChange) (expected : Result B EditFault) (e : NoChange) (Q : NoChange → Type 0)
    → IsErrAnd r Q → ((y : NoChange) → Q y → y ≡ e) → Explains expected e → Gives f r expected
gives_err f (Ok a) expected e Q h same why = absurd h
gives_err f (Err y) expected e Q h same why = rw (same y h) why

module _ (arguments : List (String Global)) (n : ℕ) where
  -- the arguments from place n on, where the next one is at hand
  pub edited-step : (argument : String Global) (ms : Members) → n < length arguments → get_or arguments n argument ≡ argument
      → edited (n + 1) (map string_bytes (drop n arguments)) ms
      ≡ and_then (edited_by (n + 1) (string_bytes argument) ms) (edited (n + 1 + 1) (map string_bytes (drop (n + 1) arguments)))
  unfolding edited
  edited-step argument ms within is = rw (drop_more arguments n argument within, is) refl

  pub edited-end : (ms : Members) → length arguments ≤ n → edited (n + 1) (map string_bytes (drop n arguments)) ms ≡ Ok ms
  unfolding edited
  edited-end ms past = rw (drop_all n arguments past) refl

-- why an argument can't be followed is why all can't
pub explains-all : (one all : Result Members EditFault) (step : Members → Result Members EditFault) (why : NoChange) → and_then one step ≡ all → Explains one why → Explains all why
explains-all one all step (Refused (Edit fault)) is why = sym is ∙ ap (λ r. and_then r step) why
explains-all one all step (Refused TooLong) is why = why
explains-all one all step (Refused NoToml) is why = why
explains-all one all step (Refused NotWritable) is why = why
explains-all one all step InputFailed is why = why
explains-all one all step NoMemory is why = tt

-- what explains that arguments were not followed explains that the scenario was not changed
pub not_made : (arguments : List (List ℕ)) (bytes : List ℕ) (before : Members) (cause : NoChange) → parse_document bytes ≡ Some before → Explains (edited 1 arguments before) cause
    → IsNotMade arguments bytes cause
not_made arguments bytes before (Refused (Edit fault)) holds why = record { before = before; holds = holds; refused = why }
not_made arguments bytes before (Refused TooLong) holds why = absurd why
not_made arguments bytes before (Refused NoToml) holds why = absurd why
not_made arguments bytes before (Refused NotWritable) holds why = absurd why
not_made arguments bytes before InputFailed holds why = absurd why
not_made arguments bytes before NoMemory holds why = tt

-- what is known of an error, where a `?` passes it on
pub not_made_err : {A : Type 0} (r : Result A NoChange) (arguments : List (List ℕ)) (bytes : List ℕ) (before : Members) (e : NoChange) (Q : NoChange → Type 0)
    → IsErrAnd r Q → ((y : NoChange) → Q y → y ≡ e) → parse_document bytes ≡ Some before → Explains (edited 1 arguments before) e
    → IfErr r (IsNotMade arguments bytes)
not_made_err (Ok a) arguments bytes before e Q h same holds why = absurd h
not_made_err (Err y) arguments bytes before e Q h same holds why = rw (same y h) (not_made arguments bytes before e holds why)
