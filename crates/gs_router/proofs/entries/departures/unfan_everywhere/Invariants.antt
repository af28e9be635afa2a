use Rattle.std.proofs.Common.{◌≡◌, ◌++◌, drop, map, filter}
use Rattle.gs_base.specs.declared.names.Topic.{Topic}
use Rattle.gs_base.specs.declared.mark.Mark.TheVariants.{Unfanned}
use Rattle.gs_mesh.specs.Peers.{is_among}
use Rattle.gs_rules.specs.Tables.{Entries}
use Rattle.gs_rules.specs.Meshes.{fanout}
use Rattle.gs_router.specs.Tables.{Agrees}
use Rattle.gs_router.proofs.entries.departures.unfan_everywhere.Given as goal

abbrev pub invariant-loop-topic : goal.invariant-loop-topic
invariant-loop-topic l =
    (L : Entries) → Agrees l.known.tables L
    → l.marks ++ map (Unfanned l.peer) (filter (λ (t : Topic). is_among (fanout L t) l.peer) (drop l.topic-index l.topics))
    ≡ l.initial.marks ++ map (Unfanned l.peer) (filter (λ (t : Topic). is_among (fanout L t) l.peer) l.topics)
