use Rattle.std.proofs.Common.{◌≡◌, ◌-◌}
use Rattle.gs_cache.proofs.Gossiping.{behind}
use Rattle.gs_cache.proofs.message_cache.announcing.announce.Given as goal

abbrev pub invariant-loop-done : goal.invariant-loop-done
invariant-loop-done l = l.ids.items ≡ behind l.windows l.gossip l.topic (l.end - l.done)
