use Rattle.std.proofs.Common.{◌≡◌, ◌++◌, drop, map}
use Rattle.gs_reach.specs.Reached.{shown, within}
use Rattle.gs_reach.proofs.distribution.push_limits.Given as goal

-- what is left is still to be added
abbrev pub invariant-loop-limit : goal.invariant-loop-limit
invariant-loop-limit l = l.list ++ map (within l.pairs) (shown l.pairs (drop l.limit-index l.limits)) ≡ l.initial.list ++ map (within l.pairs) (shown l.pairs l.limits)
