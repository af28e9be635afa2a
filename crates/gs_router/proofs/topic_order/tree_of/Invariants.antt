use Rattle.std.proofs.Common.{◌≡◌, take}
use Rattle.std.specs.List.{list_any}
use Rattle.std.specs.Map.{lookup}
use Rattle.std.specs.Ordering.{is_eq}
use Rattle.gs_base.specs.declared.names.Topic.{Topic}
use Rattle.gs_base.specs.Names.{same_topic}
use Rattle.gs_rules.specs.Tables.{topic_order}
use Rattle.gs_router.proofs.Ascending.{listed_if}
use Rattle.gs_router.proofs.topic_order.tree_of.Given as goal

abbrev pub invariant-loop-topic : goal.invariant-loop-topic
invariant-loop-topic l =
    (q : Topic) → lookup (λ u. is_eq (topic_order q u)) l.tree.entries ≡ listed_if (list_any (same_topic q) (take l.topic-index l.topics))
