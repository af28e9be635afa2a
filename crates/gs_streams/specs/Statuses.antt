-- The number for each end of a program.
use Rattle.std.specs.Prelude.{ℕ}
use Rattle.gs_streams.specs.declared.exit_status.ExitStatus.{ExitStatus}
use Rattle.gs_streams.specs.declared.exit_status.ExitStatus.TheVariants as ends

-- the status that a process ends with
abbrev pub status_of : ExitStatus → ℕ
status_of ends.Done = 0
status_of ends.Refused = 1
status_of ends.Unfinished = 2
status_of ends.CutOff = 2
status_of ends.InputFailed = 3
status_of ends.OutputFailed = 3
status_of ends.WrongArguments = 64
