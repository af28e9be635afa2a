use Rattle.std.proofs.Common.{◌≡◌, take}
use Rattle.gs_opinions.specs.Listing.{groups_at}
use Rattle.gs_opinions.proofs.run.groups_at.Given as goal

-- the scores of the groups so far
abbrev pub invariant-loop-group : goal.invariant-loop-group
invariant-loop-group l = l.scores ≡ groups_at l.round (take l.group-index l.groups)
