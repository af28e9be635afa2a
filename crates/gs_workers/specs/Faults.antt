-- Which flag was set before a fault of the workers.
use Rattle.std.specs.Prelude.{◌≡◌}
use Rattle.gs_workers.specs.declared.fault.WorkerFault.{WorkerFault}
use Rattle.gs_workers.specs.declared.fault.WorkerFault.TheVariants.{NoMemory, NoThread}
use Rattle.gs_workers.specs.declared.fault.Want.{Want}
use Rattle.gs_workers.specs.declared.fault.Want.TheVariants.{Memory, Thread}
use Rattle.gs_workers.specs.Flags.{FlagId}

-- the flag that the fault is evidence of
abbrev pub flag_in : WorkerFault → FlagId
flag_in (NoMemory raised) = raised
flag_in (NoThread raised) = raised

-- if a thread was missing, this flag is set
abbrev pub HasSet : FlagId → Want → Type 0
HasSet flag Memory = Unit {0}
HasSet flag (Thread raised) = raised ≡ flag
