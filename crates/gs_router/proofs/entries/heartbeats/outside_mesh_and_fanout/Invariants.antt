use Rattle.std.proofs.Common.{◌≡◌, ◌++◌, drop}
use Rattle.std.specs.Prelude.{◌||◌}
use Rattle.gs_base.specs.declared.names.PeerNo.{PeerNo}
use Rattle.gs_mesh.specs.Peers.{is_among}
use Rattle.gs_rules.specs.Tables.{Entries}
use Rattle.gs_rules.specs.Meshes.{fanout, mesh}
use Rattle.gs_rules.specs.Rules.{without}
use Rattle.gs_router.specs.Tables.{Agrees}
use Rattle.gs_router.proofs.entries.heartbeats.outside_mesh_and_fanout.Given as goal

abbrev pub invariant-loop-peer : goal.invariant-loop-peer
invariant-loop-peer l =
    (L : Entries) → Agrees l.known.tables L
    → l.found.items ++ without (λ (q : PeerNo). is_among (mesh L l.topic) q || is_among (fanout L l.topic) q) (drop l.peer-index l.peers)
    ≡ without (λ (q : PeerNo). is_among (mesh L l.topic) q || is_among (fanout L l.topic) q) l.peers
