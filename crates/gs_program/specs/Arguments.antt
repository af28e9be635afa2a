-- How a program ends when its arguments are wrong, or could not be read.
use Rattle.std.specs.Prelude.{◌≡◌, ℕ, List, Option, codes}
use Rattle.std.specs.Io.KnownBytes.{Keeps}
use Rattle.gs_streams.specs.Streams.{AppendsFront}
use Rattle.gs_streams.specs.declared.exit_status.ExitStatus.TheVariants.{Unfinished, WrongArguments}
use Rattle.gs_streams.specs.Statuses.{status_of}

-- the status for wrong arguments, as in sysexits.h (EX_USAGE)
abbrev pub wrong_arguments : ℕ
wrong_arguments = status_of WrongArguments

-- the line when out of memory for the arguments, which is the one for a run
abbrev pub no_memory : List ℕ
no_memory = codes "run refused: 24\n"

-- the status in that case, which is that of a refused run
abbrev pub refused : ℕ
refused = status_of Unfinished

-- this line is on errors, or a front of it, and the status is the wanted one
pub record IsRefusedSo (line : List ℕ) (wanted status : ℕ) (errors errors' : Option (List ℕ)) : Type 0 where
  pub said : AppendsFront errors errors' line
  pub status_is : status ≡ wanted

-- nothing was read; the usage is on errors, or a front of it; and nothing more is on the output
pub record IsMisused (usage : List ℕ) (status : ℕ) (input input' output output' errors errors' : Option (List ℕ)) : Type 0
  where
    pub unread : input' ≡ input
    pub refuses : IsRefusedSo usage wrong_arguments status errors errors'
    pub silent : Keeps output output'
