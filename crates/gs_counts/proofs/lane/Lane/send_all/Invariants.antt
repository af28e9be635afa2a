use Rattle.std.proofs.Common.{◌≡◌, take}
use Rattle.gs_counts.specs.Lanes.{fitting_to, lane_sent}
use Rattle.gs_counts.proofs.Lanes.{so_far}
use Rattle.gs_counts.proofs.lane.Lane.send_all.Given as goal

-- after the sends so far
abbrev pub invariant-loop-send : goal.invariant-loop-send
invariant-loop-send l =
    (l.list.items ≡ so_far l.scene l.initial.self l.initial.list.items (take l.send-index l.sends))
    × (l.self ≡ lane_sent l.initial.self (fitting_to l.initial.self.to (take l.send-index l.sends)))
