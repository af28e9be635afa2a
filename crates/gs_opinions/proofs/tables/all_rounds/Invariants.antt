use Rattle.std.proofs.Common.{[], take}
use Rattle.std.specs.List.{AllZip}
use Rattle.gs_opinions.specs.Noting.{ShowsGroup}
use Rattle.gs_opinions.proofs.tables.all_rounds.Given as goal

-- the rounds of the groups so far
abbrev pub invariant-loop-group : goal.invariant-loop-group
invariant-loop-group l = AllZip (ShowsGroup l.plan []) (take l.group-index l.groups) l.all.items
