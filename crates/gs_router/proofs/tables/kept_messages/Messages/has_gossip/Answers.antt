use Rattle.std.proofs.Common.{◌∙◌, List, ap, length}
use Rattle.std.specs.Prelude.{◌==◌, not}
use Rattle.gs_base.specs.declared.names.MsgId.{MsgId}
use Rattle.gs_router.proofs.Keeping.{gossip_so, some_listed}
use Rattle.gs_router.proofs.tables.kept_messages.Messages.has_gossip.Goals as goal

pub returns : goal.returns
returns c = λ p L agrees windows gossip.
    c.has_gossip.ensures
    ∙ ap (λ (ids : List MsgId). not (length ids == 0)) (gossip_so c.args.self.now c.args.topic.now p L agrees windows gossip)
    ∙ some_listed _
