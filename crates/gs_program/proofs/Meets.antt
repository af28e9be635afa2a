-- Which faults a run may meet.
use Rattle.std.proofs.Common.{◌≡◌, Result, Ok, Err, IfErr, false, true, rules}
use Rattle.gs_report.specs.declared.report.Report.{Report}
use Rattle.gs_seats.specs.declared.fault.NetFault.{NetFault}
use Rattle.gs_seats.specs.Faults.{number_of}
use Rattle.gs_program.specs.Program.{MayMeet}

pub memory_only : (ran : Result Report NetFault) → IfErr ran (λ fault. number_of fault ≡ 24) → IfErr ran (MayMeet false)
memory_only (Ok report) met = tt
memory_only (Err fault) met = λ _. met

pub any_fault : (ran : Result Report NetFault) → IfErr ran (MayMeet true)
any_fault (Ok report) = tt
any_fault (Err fault) = search rules
