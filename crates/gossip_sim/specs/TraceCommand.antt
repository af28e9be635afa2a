-- The command `trace`: what its options ask for, and how it ends.
use Rattle.std.specs.Prelude.{ℕ, true, List, [], ◌∷◌, codes, Option, Some, None, option_map}
use Rattle.gs_program.specs.Asked.{EndsAsked, large, progress}
use Rattle.gs_program.specs.Options.{Given, Rule, once_with_value, options_given, value_of}
use Rattle.gs_program.specs.declared.printer.PrintFault.{PrintFault}
use Rattle.gs_program.specs.declared.printer.PrintFault.TheVariants as prints
use Rattle.gs_trace.specs.declared.fault.TraceFault.{TraceFault}
use Rattle.gs_trace.specs.declared.fault.TraceFault.TheVariants as faults
use Rattle.gs_trace.specs.declared.wanted.RoundSpan.{RoundSpan}
use Rattle.gs_trace.specs.Spans.{rounds_in}
use Rattle.gs_trace.specs.Wanted.{Wishes, wanted_text}

-- the options that it takes
abbrev pub options : List Rule
options =
    large
    ∷ progress
    ∷ once_with_value (codes "--peer")
    ∷ once_with_value (codes "--topic")
    ∷ once_with_value (codes "--rounds")
    ∷ once_with_value (codes "--events")
    ∷ []

-- The rounds that `--rounds` asks for, and None where its value spells no rounds. Without the option, no rounds are asked for.
abbrev pub rounds_given : Option (List ℕ) → Option (Option RoundSpan)
rounds_given None = Some None
rounds_given (Some text) = option_map (λ (rounds : RoundSpan). Some rounds) (rounds_in text)

-- which lines options ask for, if each value is one that its option takes
abbrev pub wishes_for : List Given → Option Wishes
wishes_for given =
    option_map (λ (rounds : Option RoundSpan). record {
      peer = value_of given (codes "--peer");
      topic = value_of given (codes "--topic");
      rounds = rounds;
      events = value_of given (codes "--events");
    }) (rounds_given (value_of given (codes "--rounds")))

-- the line that is written for wrong arguments
unfoldable pub usage : List ℕ
usage = codes "usage: gossip_trace [--large] [--progress] [--peer NAME] [--topic TOPIC] [--rounds A..B] [--events A,B,..]\n"

-- what a fault of writing a trace means to a printer
abbrev pub as_printed : TraceFault → PrintFault
as_printed faults.NoMemory = prints.CutOff
as_printed faults.WriteFailed = prints.WriteFailed

-- how it ends with these arguments
abbrev pub EndsFor :
    List (List ℕ)
    → (status : ℕ) (input input' output output' errors errors' : Option (List ℕ))
    → Type 0
EndsFor arguments status input input' output output' errors errors' =
    EndsAsked usage wanted_text true wishes_for (options_given options arguments) status
    input input' output output' errors errors'
