use Rattle.std.proofs.Common.{◌≡◌, map, take}
use Rattle.gs_figure_sheets.specs.Parties.{group_wish, parties_of}
use Rattle.gs_figure_sheets.proofs.party.parties_of.Given as goal

-- the groups so far
abbrev pub invariant-loop-group : goal.invariant-loop-group
invariant-loop-group l = l.parties ≡ parties_of l.plan l.peers l.among (map group_wish (take l.group-index l.groups))
