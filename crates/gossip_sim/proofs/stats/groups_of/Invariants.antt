use Rattle.std.proofs.Common.{◌≡◌, map, take}
use Rattle.gs_figure_sheets.specs.Parties.{group_wish}
use Rattle.gossip_sim.specs.StatsWishes.{group_of}
use Rattle.gossip_sim.proofs.stats.groups_of.Given as goal

-- the groups so far
abbrev pub invariant-loop-group : goal.invariant-loop-group
invariant-loop-group l = map group_wish l.groups ≡ map group_of (take l.group-index l.named)
