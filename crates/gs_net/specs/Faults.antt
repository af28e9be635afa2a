-- The fault of a run in which the workers had a fault.
use Rattle.std.specs.Prelude.{None}
use Rattle.gs_workers.specs.declared.fault.WorkerFault.{WorkerFault}
use Rattle.gs_workers.specs.declared.fault.WorkerFault.TheVariants.{NoMemory as WorkersNoMemory, NoThread as WorkersNoThread}
use Rattle.gs_seats.specs.declared.fault.NetFault.{NetFault}
use Rattle.gs_seats.specs.declared.fault.NetFault.TheVariants.{NoMemory, NoThread}

-- memory ran out outside of the peers, or a thread was missing
abbrev pub of_workers : WorkerFault → NetFault
of_workers (WorkersNoMemory raised) = NoMemory None
of_workers (WorkersNoThread raised) = NoThread
