use Rattle.std.proofs.Common.{◌∙◌}
use Rattle.gs_router.proofs.Keeping.{gossip_so}
use Rattle.gs_router.proofs.tables.kept_messages.Messages.gossip_ids.Goals as goal

pub returns : goal.returns
returns c = λ p L agrees windows gossip. c.in_ok-ids.ensures ∙ gossip_so c.args.self.now c.args.topic.now p L agrees windows gossip
