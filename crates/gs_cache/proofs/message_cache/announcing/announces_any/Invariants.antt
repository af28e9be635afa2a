use Rattle.std.proofs.Common.{◌≡◌}
use Rattle.gs_cache.specs.Windows.{announced_in}
use Rattle.gs_cache.proofs.Gossiping.{behind}
use Rattle.gs_cache.proofs.message_cache.announcing.announces_any.Given as goal

-- the newer windows announce nothing
abbrev pub invariant-loop-age : goal.invariant-loop-age
invariant-loop-age l = announced_in 0 l.gossip l.topic l.windows ≡ behind l.windows l.gossip l.topic l.age
