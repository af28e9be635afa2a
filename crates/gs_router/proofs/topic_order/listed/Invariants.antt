use Rattle.std.proofs.Common.{◌≡◌, ◌++◌}
use Rattle.gs_router.proofs.Ascending.{joined_in}
use Rattle.gs_router.proofs.topic_order.listed.Given as goal

abbrev pub invariant-loop-topic : goal.invariant-loop-topic
invariant-loop-topic l = l.list.items ++ joined_in l.topic-iterator ≡ joined_in l.tree.entries
