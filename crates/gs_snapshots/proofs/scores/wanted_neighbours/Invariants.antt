use Rattle.std.proofs.Common.{◌≡◌, filter, take}
use Rattle.gs_base.specs.Names.{peers_of}
use Rattle.gs_snapshots.specs.Wishes.{has_name, wishes_of}
use Rattle.gs_snapshots.proofs.scores.wanted_neighbours.Given as goal

-- those of the neighbours so far that are wanted
abbrev pub invariant-loop-neighbour : goal.invariant-loop-neighbour
invariant-loop-neighbour l =
    l.list.items ≡ filter (has_name (wishes_of l.wanted).neighbour l.plan) (peers_of (take l.neighbour-index l.neighbour-items))
