use Rattle.std.proofs.Common.{◌≡◌, ◌++◌, take}
use Rattle.std.specs.List.{flat_map}
use Rattle.gs_picture.specs.Circle.{edge_text}
use Rattle.gs_picture.proofs.circle.push_edges.Given as goal

-- the edges so far come after what was there
abbrev pub invariant-loop-edge : goal.invariant-loop-edge
invariant-loop-edge l = l.text.items ≡ l.initial.text.items ++ flat_map (edge_text l.count) (take l.edge-index l.edges)
