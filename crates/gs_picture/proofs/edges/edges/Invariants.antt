use Rattle.std.proofs.Common.{◌≡◌, take}
use Rattle.std.specs.List.{flat_map}
use Rattle.gs_picture.specs.Edges.{edges_from}
use Rattle.gs_picture.proofs.edges.edges.Given as goal

-- the edges from the peers so far
abbrev pub invariant-loop-peer : goal.invariant-loop-peer
invariant-loop-peer l = l.found.items ≡ flat_map (edges_from l.peers l.topic) (take l.peer-index l.peers)
