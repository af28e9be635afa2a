-- What a report says about a peer by its trace: the meshes and the scores.
use Rattle.std.specs.Prelude.{ℕ, ℤ, List, map}
use Rattle.std.specs.List.{flat_map}
use Rattle.gs_base.specs.declared.names.PeerNo.{PeerNo}
use Rattle.gs_base.specs.declared.names.Topic.{Topic}
use Rattle.gs_rules.specs.Peers.{Peer, links_of}
use Rattle.gs_rules.specs.Tables.{Entries, own_topics}
use Rattle.gs_rules.specs.Meshes.{mesh}
use Rattle.gs_rules.specs.Scoring.{score}

-- the scores of all neighbours at a moment, by number
abbrev pub scores_of : Peer → Entries → ℕ → List (PeerNo × ℤ)
scores_of p L at = map (λ q. (q, score p L at q)) (links_of p)

-- the members of the meshes of the peer's own topics, with topics ordered by bytes and members by number
abbrev pub meshes_of : Entries → List (Topic × PeerNo)
meshes_of L = flat_map (λ t. map (λ q. (t, q)) (mesh L t)) (own_topics L)
