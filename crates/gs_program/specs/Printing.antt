-- What a printer leaves on its output.
use Rattle.std.specs.Prelude.{◌≡◌, ℕ, Bool, true, List, Option, Result, Ok, Err}
use Rattle.std.specs.Io.KnownBytes.{Appends, Keeps}
use Rattle.gs_streams.specs.Streams.{AppendsFront}
use Rattle.gs_program.specs.declared.printer.PrintFault.{PrintFault}
use Rattle.gs_program.specs.declared.printer.PrintFault.TheVariants.{NoMemory, CutOff, WriteFailed}

-- When out of memory for the text, nothing was added to the output. Only a printer that writes in parts may be cut off after
-- a front of its text. Where a write failed, a front was added, too.
abbrev pub StopsPrinting : (in_parts : Bool) → List ℕ → (output output' : Option (List ℕ)) → PrintFault → Type 0
StopsPrinting in_parts text output output' NoMemory = Keeps output output'
StopsPrinting in_parts text output output' CutOff = (in_parts ≡ true) × AppendsFront output output' text
StopsPrinting in_parts text output output' WriteFailed = AppendsFront output output' text

-- the whole text was added to the output, or printing stopped with the fault
abbrev pub Prints : {T : Type 0} → (in_parts : Bool) → List ℕ → (output output' : Option (List ℕ)) → Result T PrintFault
    → Type 0
Prints in_parts text output output' (Ok done) = Appends output output' text
Prints in_parts text output output' (Err fault) = StopsPrinting in_parts text output output' fault
