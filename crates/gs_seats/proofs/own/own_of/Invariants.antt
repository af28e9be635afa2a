use Rattle.std.proofs.Common.{◌≡◌, ◌++◌, drop, filter}
use Rattle.gs_seats.proofs.own.own_of.Given as goal

-- those so far, and those of the rest
abbrev pub invariant-loop-one : goal.invariant-loop-one
invariant-loop-one g l =
    l.own.items ++ filter (g.T.Concerning.is_of l.peer) (drop l.one-index l.all) ≡ filter (g.T.Concerning.is_of l.peer) l.all
