use Rattle.std.proofs.Common.{◌≡◌, map, take}
use Rattle.gs_base.specs.Names.{peers_of}
use Rattle.gs_counts.specs.Lanes.{new_lane}
use Rattle.gs_counts.proofs.traces.lanes_to.Given as goal

-- a lane to each neighbour so far
abbrev pub invariant-loop-neighbour : goal.invariant-loop-neighbour
invariant-loop-neighbour l = l.lanes.items ≡ map new_lane (peers_of (take l.neighbour-index l.neighbours))
