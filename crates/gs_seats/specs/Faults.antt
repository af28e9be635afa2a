-- A run's faults, with the numbers that docs/REFUSALS.md lists.
use Rattle.std.specs.Prelude.{ℕ}
use Rattle.gs_seats.specs.declared.fault.NetFault.{NetFault}
use Rattle.gs_seats.specs.declared.fault.NetFault.TheVariants.{NoMemory, NoThread}

abbrev pub number_of : NetFault → ℕ
number_of (NoMemory peer) = 24
number_of NoThread = 25
