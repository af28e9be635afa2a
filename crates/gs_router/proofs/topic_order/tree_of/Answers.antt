use Rattle.std.proofs.Common.{List}
use Rattle.gs_base.specs.declared.names.Topic.{Topic}
use Rattle.gs_router.proofs.Ascending.{listed_after}
use Rattle.gs_router.proofs.topic_order.tree_of.Goals as goal

pub loop-topic-preserved : goal.loop-topic-preserved
loop-topic-preserved c =
    let topics : List Topic = c.args.topics.now in
    listed_after topics c.loop-topic.topic-index c.topic-item.result c.in_ok-clone_of.field-0 c.loop-topic.tree.entries _ c.loop-topic-test.true c.topic-item.is c.in_ok-clone_of.ensures c.in_ok-insert.ensures.updates.0 c.loop-topic.invariant
