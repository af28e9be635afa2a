use Rattle.std.proofs.Common.{List, ap, ◌∙◌}
use Rattle.gs_cache.specs.declared.message_cache.window.Window.{Window}
use Rattle.gs_cache.specs.CachedMessages.{last_of, most_announced}
use Rattle.gs_cache.specs.Windows.{announced_in}
use Rattle.gs_cache.proofs.Gossiping.{announced_is}
use Rattle.gs_cache.proofs.message_cache.MessageCache.gossip_ids.Goals as goal

pub returns : goal.returns
returns c = rw (← c.self.view_is)
    (c.from.ensures ∙ c.in_ok-ids.ensures
    ∙ ap (last_of most_announced)
    (ap (λ (ws : List Window). announced_in 0 c.self.inside.gossip c.args.topic.now ws) c.as_slice.ensures.value ∙ announced_is c.self.inside.gossip c.args.topic.now 0 c.self.inside.windows.items))
