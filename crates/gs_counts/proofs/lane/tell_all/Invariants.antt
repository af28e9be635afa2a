use Rattle.std.proofs.Common.{◌≡◌, ◌++◌, drop, map, take}
use Rattle.std.specs.List.{flat_map}
use Rattle.gs_counts.specs.Lanes.{lane_after, lane_happenings}
use Rattle.gs_counts.proofs.lane.tell_all.Given as goal

-- the entry is told to the lanes so far
abbrev pub invariant-loop-lane : goal.invariant-loop-lane
invariant-loop-lane l =
    (l.list.items ≡ l.initial.list.items ++ flat_map (λ lane. lane_happenings l.scene lane l.entry) (take l.lane-index l.fn.lanes))
    × (l.lanes ≡ map (lane_after l.entry) (take l.lane-index l.fn.lanes) ++ drop l.lane-index l.fn.lanes)
