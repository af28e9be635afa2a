use Rattle.std.proofs.Common.{◌≡◌, ◌++◌, drop, map, take}
use Rattle.gs_opinions.specs.Noting.{lowered_group}
use Rattle.gs_opinions.proofs.tables.lower_groups.Given as goal

-- the groups so far have noted it
abbrev pub invariant-loop-group : goal.invariant-loop-group
invariant-loop-group l = l.groups ≡ map (lowered_group l.round l.opinion) (take l.group-index l.fn.groups) ++ drop l.group-index l.fn.groups
