use Rattle.std.proofs.Common.{◌≡◌, ◌++◌, drop, map}
use Rattle.std.specs.List.{flat_map}
use Rattle.gs_base.specs.declared.names.PeerNo.{PeerNo}
use Rattle.gs_base.specs.declared.names.Topic.{Topic}
use Rattle.gs_rules.specs.Tables.{Entries}
use Rattle.gs_rules.specs.Meshes.{mesh}
use Rattle.gs_router.specs.Tables.{Agrees}
use Rattle.gs_router.proofs.state.State.meshes.Given as goal

abbrev pub invariant-loop-topic : goal.invariant-loop-topic
invariant-loop-topic g l =
    (L : Entries) → Agrees l.self.known.tables L
    → l.meshes ++ flat_map (λ (t : Topic). map (λ (q : PeerNo). (t, q)) (mesh L t)) (drop l.topic-index l.topic-items)
    ≡ flat_map (λ (t : Topic). map (λ (q : PeerNo). (t, q)) (mesh L t)) l.topic-items
