-- The edges of a topic at the end. An edge shows that a peer has another in its mesh of the topic.
use Rattle.std.specs.Prelude.{Bool, true, false, ◌&&◌, nat_lt, if◌then◌else◌, List, [], ◌∷◌}
use Rattle.std.specs.List.{flat_map, list_any}
use Rattle.gs_base.specs.declared.names.PeerNo.{PeerNo}
use Rattle.gs_base.specs.declared.names.Topic.{Topic}
use Rattle.gs_base.specs.Names.{same_peer, same_topic}
use Rattle.gs_report.specs.declared.finished.Finished.{Finished}
use Rattle.gs_picture.specs.declared.edges.Edge.{Edge}

-- it is a member of the mesh of a topic
abbrev pub is_member : Topic → PeerNo → Topic × PeerNo → Bool
is_member t p x = same_topic x.0 t && same_peer x.1 p

-- a peer with a number has another in its mesh of a topic
abbrev pub has_in_mesh : Topic → PeerNo → PeerNo → PeerNo × Finished → Bool
has_in_mesh t p q x = same_peer x.0 p && list_any (is_member t q) x.1.meshes

-- one of these peers has that number, and has the other in its mesh
abbrev pub any_has_in_mesh : List (PeerNo × Finished) → Topic → PeerNo → PeerNo → Bool
any_has_in_mesh peers t p q = list_any (has_in_mesh t p q) peers

-- The edge from a peer to a member of its mesh. Where each has the other, the two have one edge, from the lower number.
abbrev pub edge_between : Bool → PeerNo → PeerNo → List Edge
edge_between both p q =
    if both then if nat_lt p.0 q.0 then record { from = p; to = q; both = true } ∷ [] else []
    else record { from = p; to = q; both = false } ∷ []

abbrev pub edge_to : List (PeerNo × Finished) → Topic → PeerNo → Topic × PeerNo → List Edge
edge_to peers t p x = if same_topic x.0 t then edge_between (any_has_in_mesh peers t x.1 p) p x.1 else []

abbrev pub edges_from : List (PeerNo × Finished) → Topic → PeerNo × Finished → List Edge
edges_from peers t x = flat_map (edge_to peers t x.0) x.1.meshes

-- all edges of a topic, peer by peer
abbrev pub edges : List (PeerNo × Finished) → Topic → List Edge
edges peers t = flat_map (edges_from peers t) peers
