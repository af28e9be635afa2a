-- The command `edit`: how it ends.
use Rattle.std.specs.Prelude.{◌≡◌, ℕ, false, List, Option}
use Rattle.gs_edit.specs.Keys.{are_edits}
use Rattle.gs_edit.specs.Program.{EndsAs}
use Rattle.gs_streams.specs.Statuses.{status_of}
use Rattle.gs_streams.specs.declared.exit_status.ExitStatus.{ExitStatus}
use Rattle.gs_streams.specs.declared.exit_status.ExitStatus.TheVariants.{WrongArguments}

-- How it ends with these arguments: with the status of an end, and with streams as that end says. Arguments that are no edits
-- have their own end.
pub record EndsFor (arguments : List (List ℕ)) (status : ℕ) (input input' output output' errors errors' : Option (List ℕ))
    : Type 0 where
  pub ended : ExitStatus
  pub misused : are_edits arguments ≡ false → ended ≡ WrongArguments
  pub ends : EndsAs ended arguments input input' output output' errors errors'
  pub status_is : status ≡ status_of ended
