-- The command `check`: how it ends.
use Rattle.std.specs.Prelude.{ℕ, List, [], ◌∷◌, codes, Option, Some, None}
use Rattle.gs_check.specs.Program.{EndsSomehow}
use Rattle.gs_program.specs.Arguments.{IsMisused}
use Rattle.gs_program.specs.Asked.{large, limits_given}
use Rattle.gs_program.specs.Options.{Given, Rule, options_given}

-- the options that it takes
abbrev pub options : List Rule
options = large ∷ []

-- what is written for wrong arguments
abbrev pub usage : List ℕ
usage = codes "usage: gossip_check [--large]\n"

abbrev pub EndsGiven :
    Option (List Given)
    → (status : ℕ) (input input' output output' errors errors' : Option (List ℕ))
    → Type 0
EndsGiven None status input input' output output' errors errors' =
    IsMisused usage status input input' output output' errors errors'
EndsGiven (Some given) status input input' output output' errors errors' =
    EndsSomehow (limits_given given) status input output output' errors errors'

-- how it ends with these arguments
abbrev pub EndsFor :
    List (List ℕ)
    → (status : ℕ) (input input' output output' errors errors' : Option (List ℕ))
    → Type 0
EndsFor arguments status input input' output output' errors errors' =
    EndsGiven (options_given options arguments) status input input' output output' errors errors'
