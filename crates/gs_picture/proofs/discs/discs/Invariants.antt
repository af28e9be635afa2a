use Rattle.std.proofs.Common.{◌≡◌, map, take}
use Rattle.gs_picture.specs.Discs.{disc}
use Rattle.gs_picture.proofs.discs.discs.Given as goal

-- the discs of the peers so far
abbrev pub invariant-loop-peer : goal.invariant-loop-peer
invariant-loop-peer l = l.found.items ≡ map (λ x. disc l.thresholds l.of l.peers l.topic x.0) (take l.peer-index l.peers)
