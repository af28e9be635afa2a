use Rattle.std.proofs.Common.{◌≡◌, ◌++◌}
use Rattle.gs_router.proofs.Ascending.{used_in}
use Rattle.gs_router.proofs.tables.mesh_topics.MeshTopics.list.Given as goal

abbrev pub invariant-loop-topic : goal.invariant-loop-topic
invariant-loop-topic l = l.list.items ++ used_in l.topic-iterator ≡ used_in l.self.topics.entries
