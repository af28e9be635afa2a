use Rattle.std.proofs.Common.{◌≡◌, ◌++◌, take}
use Rattle.std.specs.List.{flat_map}
use Rattle.gs_picture.specs.Edges.{edge_to}
use Rattle.gs_picture.proofs.edges.list_edges.Given as goal

-- the edges to the members so far come after what was there
abbrev pub invariant-loop-member : goal.invariant-loop-member
invariant-loop-member l = l.found.items ≡ l.initial.found.items ++ flat_map (edge_to l.peers l.topic l.from) (take l.member-index l.members)
