use Rattle.std.proofs.Common.{◌≡◌, map, take}
use Rattle.gs_seats.specs.Rounds.{neighbour_in}
use Rattle.gs_seats.proofs.neighbours.neighbours_by.Given as goal

-- those so far
abbrev pub invariant-loop-other : goal.invariant-loop-other
invariant-loop-other l = l.found.items ≡ map (neighbour_in l.plan l.fn.peer) (take l.other-index l.other-items)
