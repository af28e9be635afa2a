-- How making a changed document ends.
use Rattle.std.specs.Prelude.{◌≡◌, ⊤, ℕ, Ok, Err, Result, MatchResult}
use Rattle.gs_edit.specs.declared.edits.EditFault.{EditFault}
use Rattle.gs_edit.specs.declared.edits.EditFault.TheVariants.{NoTable}
use Rattle.gs_edit.specs.declared.edits.NoChange.{NoChange}
use Rattle.gs_edit.specs.declared.edits.NoChange.TheVariants.{InputFailed, NoMemory, Refused}
use Rattle.gs_edit.specs.declared.places.PlaceFault.{PlaceFault}
use Rattle.gs_edit.specs.declared.places.PlaceFault.TheVariants as places
use Rattle.gs_edit.specs.declared.edits.Refusal.{Refusal}
use Rattle.gs_edit.specs.declared.edits.Refusal.TheVariants.{Edit, NoToml, NotWritable, TooLong}

-- the refusal says why what was expected was not made
abbrev pub IsOf : {B : Type 0} → Result B EditFault → Refusal → Type 0
IsOf expected (Edit fault) = expected ≡ Err fault
IsOf expected TooLong = ⊥
IsOf expected NoToml = ⊥
IsOf expected NotWritable = ⊥

-- Why what was expected was not made: a refusal says why, or memory ran out. `InputFailed` is no cause here, because no
-- input is read.
abbrev pub Explains : {B : Type 0} → Result B EditFault → NoChange → Type 0
Explains expected (Refused refusal) = IsOf expected refusal
Explains expected InputFailed = ⊥
Explains expected NoMemory = ⊤

-- what was made is what was expected, or the cause explains why nothing was made
abbrev pub Gives : {A B : Type 0} → (A → B) → Result A NoChange → Result B EditFault → Type 0
Gives seen r expected = MatchResult r (λ a. expected ≡ Ok (seen a)) (Explains expected)

-- why the key of argument n can't be set
abbrev pub no_place : ℕ → PlaceFault → NoChange
no_place n places.NoTable = Refused (Edit (NoTable n))
no_place n places.NoMemory = NoMemory
