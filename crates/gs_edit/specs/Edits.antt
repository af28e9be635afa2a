-- What the arguments make of a document, in their order.
use Rattle.std.specs.Prelude.{◌+◌, ℕ, List, [], ◌∷◌, Option, Some, None, Ok, Err, Result, ok_or, if◌then◌else◌}
use Rattle.toml.specs.Data.{Data, Members}
use Rattle.toml.specs.Parse.{parse_value}
use Rattle.gs_edit.specs.Keys.{is_key, key_text, path_of, value_text}
use Rattle.gs_edit.specs.Documents.{with_key}
use Rattle.gs_edit.specs.declared.edits.EditFault.{EditFault}
use Rattle.gs_edit.specs.declared.edits.EditFault.TheVariants.{NoKey, NoTable, NoValue}

-- the members with the value of argument n at its key, or why not
abbrev pub with_value : ℕ → List (List ℕ) → Members → Option Data → Result Members EditFault
with_value n path ms None = Err (NoValue n)
with_value n path ms (Some value) = ok_or (with_key path value ms) (NoTable n)

unfoldable pub edited_by : ℕ → List ℕ → Members → Result Members EditFault
edited_by n argument ms =
    if is_key (key_text argument) then with_value n (path_of (key_text argument)) ms (parse_value (value_text argument))
    else Err (NoKey n)

-- what a step makes of members that an earlier step gave
abbrev pub and_then : Result Members EditFault → (Members → Result Members EditFault) → Result Members EditFault
and_then (Ok ms) step = step ms
and_then (Err fault) step = Err fault

-- the members with each argument's value at its key, where the first argument is number n, or the first reason why not
unfoldable pub edited : ℕ → List (List ℕ) → Members → Result Members EditFault
edited n [] ms = Ok ms
edited n (argument ∷ arguments) ms = and_then (edited_by n argument ms) (edited (n + 1) arguments)
