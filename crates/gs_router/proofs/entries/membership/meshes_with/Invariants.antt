use Rattle.std.proofs.Common.{◌≡◌, ◌++◌, drop}
use Rattle.gs_rules.specs.Tables.{Entries}
use Rattle.gs_rules.specs.Membership.{meshes_with}
use Rattle.gs_router.specs.Tables.{Agrees}
use Rattle.gs_router.proofs.entries.membership.meshes_with.Given as goal

abbrev pub invariant-loop-topic : goal.invariant-loop-topic
invariant-loop-topic l =
    (L : Entries) → Agrees l.known.tables L
    → l.pairs.items ++ meshes_with L l.peer (drop l.topic-index l.topics) ≡ meshes_with L l.peer l.topics
