use Rattle.std.proofs.Common.{◌≡◌, map, take}
use Rattle.gs_figure_sheets.specs.Parties.{group_wish, groups_of}
use Rattle.gs_figure_sheets.proofs.party.groups_of.Given as goal

-- the peers of the groups so far
abbrev pub invariant-loop-group : goal.invariant-loop-group
invariant-loop-group l = l.list ≡ groups_of l.plan l.peers (map group_wish (take l.group-index l.groups))
