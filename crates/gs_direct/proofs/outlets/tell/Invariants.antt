use Rattle.gs_direct.specs.Outlets.{Says}
use Rattle.gs_direct.proofs.Pairs.{Reached}
use Rattle.gs_direct.proofs.outlets.tell.Given as goal

-- the entry is said to the outlets so far
abbrev pub invariant-loop-outlet : goal.invariant-loop-outlet
invariant-loop-outlet l = Reached (Says l.entry) l.outlet-index l.fn.outlets l.outlets
