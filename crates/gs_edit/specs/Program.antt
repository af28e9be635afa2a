-- How a run of the program ends, and what it has then written.
use Rattle.std.specs.Prelude.{◌≡◌, ◌<◌, ◌++◌, ◌-◌, ◌&&◌, ◌⊎◌, ⊤, ℕ, Bool, false, nat_le, List, [], codes, decimal, length, Vec, Result, Ok, Err, None, Option, Some, IfSome, IsUtf8, unwrap_or, slice_get}
use Rattle.std.specs.Global.{Global}
use Rattle.std.specs.Io.KnownBytes.{Appends, Keeps}
use Rattle.toml_parser.specs.Strings.{recursion_limit}
use Rattle.toml.specs.Data.{Members, members_depth, members_have_valid_dates}
use Rattle.toml.specs.Parse.{parse_document}
use Rattle.toml.specs.Text.{IsDocumentText}
use Rattle.gs_plan.specs.Limits.{longest_input}
use Rattle.gs_plan.specs.declared.limits.Limits.TheVariants.{Large}
use Rattle.gs_streams.specs.Streams.{AppendsFront}
use Rattle.gs_edit.specs.Keys.{are_edits, key_text}
use Rattle.gs_edit.specs.Edits.{edited}
use Rattle.gs_edit.specs.declared.edits.EditFault.{EditFault}
use Rattle.gs_edit.specs.declared.edits.EditFault.TheVariants.{NoKey, NoTable, NoValue}
use Rattle.gs_edit.specs.declared.edits.Refusal.{Refusal}
use Rattle.gs_edit.specs.declared.edits.Refusal.TheVariants as refusals
use Rattle.gs_edit.specs.declared.edits.NoChange.{NoChange}
use Rattle.gs_edit.specs.declared.edits.NoChange.TheVariants as causes
use Rattle.gs_streams.specs.declared.ReadFault.{ReadFault}
use Rattle.gs_streams.specs.declared.ReadFault.TheVariants as reads
use Rattle.gs_streams.specs.declared.exit_status.ExitStatus.{ExitStatus}
use Rattle.gs_streams.specs.declared.exit_status.ExitStatus.TheVariants as ends

-- ---- scenarios

-- the members nest no deeper than a text that is read may, and each date in them is valid
abbrev pub is_writable : Members → Bool
is_writable ms = nat_le (members_depth ms) recursion_limit && members_have_valid_dates ms

-- the text writes the members as TOML, and reading it gives the same members
pub record IsTextOf (ms : Members) (text : List ℕ) : Type 0 where
  pub form : IsDocumentText false ms text
  pub reads_back : parse_document text ≡ Some ms

-- The text writes what the scenario of the whole input holds, with each argument's value at its key, in the arguments'
-- order. Where the input's bytes are not known, some scenario is meant.
pub record IsChanged (arguments : List (List ℕ)) (input : Option (List ℕ)) (text : List ℕ) : Type 0 where
  pub scenario : List ℕ
  pub whole : IfSome input (λ bytes. scenario ≡ bytes)
  pub readable : IsUtf8 scenario
  pub before : Members
  pub holds : parse_document scenario ≡ Some before
  pub after : Members
  pub made : edited 1 arguments before ≡ Ok after
  pub written : IsTextOf after text

-- the scenario can be read, and the fault is that of the first argument that can't be followed
pub record IsRefusedEdit (arguments : List (List ℕ)) (bytes : List ℕ) (fault : EditFault) : Type 0 where
  pub before : Members
  pub holds : parse_document bytes ≡ Some before
  pub refused : edited 1 arguments before ≡ Err fault

-- the scenario can be read and changed, but the result can't be written
pub record IsNotWritable (arguments : List (List ℕ)) (bytes : List ℕ) : Type 0 where
  pub before : Members
  pub holds : parse_document bytes ≡ Some before
  pub after : Members
  pub made : edited 1 arguments before ≡ Ok after
  pub unwritable : is_writable after ≡ false

-- why the bytes of a scenario are refused
abbrev pub IsRefusal : List (List ℕ) → List ℕ → Refusal → Type 0
IsRefusal arguments bytes refusals.TooLong = longest_input Large < length bytes
IsRefusal arguments bytes refusals.NoToml = IsUtf8 bytes → parse_document bytes ≡ None
IsRefusal arguments bytes (refusals.Edit fault) = IsRefusedEdit arguments bytes fault
IsRefusal arguments bytes refusals.NotWritable = IsNotWritable arguments bytes

-- Why the bytes of a scenario were not changed: they are refused for this reason, or memory ran out. `InputFailed` is no
-- cause here, because the bytes were read.
abbrev pub IsNotMade : List (List ℕ) → List ℕ → NoChange → Type 0
IsNotMade arguments bytes (causes.Refused refusal) = IsRefusal arguments bytes refusal
IsNotMade arguments bytes causes.InputFailed = ⊥
IsNotMade arguments bytes causes.NoMemory = ⊤

-- ---- readings

-- the reading is one of this input: what was read is all of the input, and the input is called too long only where it is
abbrev pub IsReading : Option (List ℕ) → Result (Vec ℕ Global) ReadFault → Type 0
IsReading input (Ok bytes) = IfSome input (λ given. bytes.items ≡ given)
IsReading input (Err reads.Failed) = ⊤
IsReading input (Err reads.TooLong) = IfSome input (λ given. longest_input Large < length given)
IsReading input (Err reads.NoMemory) = ⊤

-- why a scenario that was not read to its end is not changed
abbrev pub unread : ReadFault → NoChange
unread reads.Failed = causes.InputFailed
unread reads.TooLong = causes.Refused refusals.TooLong
unread reads.NoMemory = causes.NoMemory

-- why an input was not changed
abbrev pub IsNotChanged : List (List ℕ) → Option (List ℕ) → NoChange → Type 0
IsNotChanged arguments input (causes.Refused refusal) = IfSome input (λ bytes. IsRefusal arguments bytes refusal)
IsNotChanged arguments input causes.InputFailed = ⊤
IsNotChanged arguments input causes.NoMemory = ⊤

-- ---- lines

-- the key of argument n, where the first is argument 1
abbrev pub key_at : List (List ℕ) → ℕ → List ℕ
key_at arguments n = key_text (unwrap_or (slice_get arguments (n - 1)) [])

abbrev pub no_key : ℕ → List ℕ
no_key n =
    codes "argument " ++ decimal n
    ++ codes " has no key before its `=`: a key is a name, or several with dots between them, of letters, digits, `_` and `-`"

abbrev pub no_value : List ℕ → List ℕ
no_value key = codes "the value of `" ++ key ++ codes "` is no TOML"

abbrev pub no_table : List ℕ → List ℕ
no_table key = codes "`" ++ key ++ codes "` goes through what is neither a table nor an element of a list"

abbrev pub edit_reason : List (List ℕ) → EditFault → List ℕ
edit_reason arguments (NoKey n) = no_key n
edit_reason arguments (NoValue n) = no_value (key_at arguments n)
edit_reason arguments (NoTable n) = no_table (key_at arguments n)

abbrev pub reason : List (List ℕ) → Refusal → List ℕ
reason arguments refusals.TooLong = codes "the scenario has more than 67108864 bytes"
reason arguments refusals.NoToml = codes "the scenario is no TOML"
reason arguments (refusals.Edit fault) = edit_reason arguments fault
reason arguments refusals.NotWritable = codes "the changed scenario nests too deep, or holds a date that is none"

abbrev pub refusal_line : List (List ℕ) → Refusal → List ℕ
refusal_line arguments refusal = codes "edit refused: " ++ reason arguments refusal ++ codes "\n"

abbrev pub no_memory_line : List ℕ
no_memory_line = codes "edit refused: no memory\n"

abbrev pub input_line : List ℕ
input_line = codes "input failed\n"

abbrev pub usage_line : List ℕ
usage_line = codes "usage: gossip_edit KEY=VALUE..\n"

-- ---- ends

-- For each end: the reader had `input` left to read before, and `input'` after. Each writer held the first text before, and
-- the second after.

-- a text of the changed scenario is on the output, and nothing more on errors
pub record Changed (arguments : List (List ℕ)) (input output output' errors errors' : Option (List ℕ)) : Type 0 where
  pub text : List ℕ
  pub changed : IsChanged arguments input text
  pub whole : Appends output output' text
  pub silent : Keeps errors errors'

-- the line of the refusal is on errors, or a front of it, and nothing more on the output
pub record EditRefused (arguments : List (List ℕ)) (input output output' errors errors' : Option (List ℕ)) : Type 0 where
  pub refusal : Refusal
  pub refused : IfSome input (λ bytes. IsRefusal arguments bytes refusal)
  pub line : AppendsFront errors errors' (refusal_line arguments refusal)
  pub silent : Keeps output output'

-- a line is on errors, or a front of it, and nothing more on the output
pub record Told (words : List ℕ) (output output' errors errors' : Option (List ℕ)) : Type 0 where
  pub line : AppendsFront errors errors' words
  pub silent : Keeps output output'

-- a front of a text of the changed scenario is on the output, which then failed
pub record OutputFailed (arguments : List (List ℕ)) (input output output' errors errors' : Option (List ℕ)) : Type 0 where
  pub text : List ℕ
  pub changed : IsChanged arguments input text
  pub front : AppendsFront output output' text
  pub line : AppendsFront errors errors' (codes "output failed\n")

-- The arguments are no edits, and nothing was read. The usage is on errors, or a front of it, and nothing more on the output.
pub record WrongArguments (arguments : List (List ℕ)) (input input' output output' errors errors' : Option (List ℕ)) : Type 0
  where
    pub wrong : are_edits arguments ≡ false
    pub unread : input' ≡ input
    pub told : Told usage_line output output' errors errors'

-- What each end says. A text is never cut off.
abbrev pub EndsAs : ExitStatus → List (List ℕ) → (input input' output output' errors errors' : Option (List ℕ)) → Type 0
EndsAs ends.Done arguments input input' output output' errors errors' =
    Changed arguments input output output' errors errors'
EndsAs ends.Refused arguments input input' output output' errors errors' =
    EditRefused arguments input output output' errors errors'
EndsAs ends.Unfinished arguments input input' output output' errors errors' =
    Told no_memory_line output output' errors errors'
EndsAs ends.CutOff arguments input input' output output' errors errors' = ⊥
EndsAs ends.InputFailed arguments input input' output output' errors errors' = Told input_line output output' errors errors'
EndsAs ends.OutputFailed arguments input input' output output' errors errors' =
    OutputFailed arguments input output output' errors errors'
EndsAs ends.WrongArguments arguments input input' output output' errors errors' =
    WrongArguments arguments input input' output output' errors errors'

-- a line is on errors, or a front of it, and the status is the wanted one
pub record Says (words : List ℕ) (wanted status : ExitStatus) (errors errors' : Option (List ℕ)) : Type 0 where
  pub status_is : status ≡ wanted
  pub line : AppendsFront errors errors' words

-- How the program ends where nothing was changed: each cause has its own end. A refusal has the end for no memory where
-- memory for its line ran out.
abbrev pub EndsFor : NoChange → List (List ℕ) → ExitStatus → (errors errors' : Option (List ℕ)) → Type 0
EndsFor (causes.Refused refusal) arguments status errors errors' =
    Says (refusal_line arguments refusal) ends.Refused status errors errors'
    ⊎ Says no_memory_line ends.Unfinished status errors errors'
EndsFor causes.InputFailed arguments status errors errors' = Says input_line ends.InputFailed status errors errors'
EndsFor causes.NoMemory arguments status errors errors' = Says no_memory_line ends.Unfinished status errors errors'
