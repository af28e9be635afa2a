-- The numbers of a task's faults, as docs/REFUSALS.md lists them, and the flag that a fault is evidence of.
use Rattle.std.specs.Prelude.{◌≡◌, ℕ}
use Rattle.gs_workers.specs.Flags.{FlagId}
use Rattle.gs_peer.specs.declared.finished_task.PeerFault.{PeerFault}
use Rattle.gs_peer.specs.declared.finished_task.PeerFault.TheVariants.{NoMemory, Stopped, Over}

abbrev pub number_of : PeerFault → ℕ
number_of (NoMemory raised) = 22
number_of (Stopped found) = 23
number_of Over = 23

-- the fault is evidence that this flag was set
abbrev pub IsOfFlag : FlagId → PeerFault → Type 0
IsOfFlag flag (NoMemory raised) = raised ≡ flag
IsOfFlag flag (Stopped found) = found ≡ flag
IsOfFlag flag Over = ⊥
