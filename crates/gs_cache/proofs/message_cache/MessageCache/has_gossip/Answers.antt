use Rattle.std.proofs.Common.{List, ap, ◌∙◌, length}
use Rattle.std.specs.Prelude.{◌==◌, not}
use Rattle.gs_base.specs.declared.names.MsgId.{MsgId}
use Rattle.gs_cache.specs.declared.message_cache.window.Window.{Window}
use Rattle.gs_cache.specs.Windows.{announced_in}
use Rattle.gs_cache.proofs.Gossiping.{announced_is, last_few}
use Rattle.gs_cache.proofs.message_cache.MessageCache.has_gossip.Goals as goal

pub returns : goal.returns
returns c = rw (← c.self.view_is)
    (c.announces_any.ensures
    ∙ ap (λ (ids : List MsgId). not (length ids == 0))
    (ap (λ (ws : List Window). announced_in 0 c.self.inside.gossip c.args.topic.now ws) c.as_slice.ensures.value ∙ announced_is c.self.inside.gossip c.args.topic.now 0 c.self.inside.windows.items)
    ∙ last_few _)
