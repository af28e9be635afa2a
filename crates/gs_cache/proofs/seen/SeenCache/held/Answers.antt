use Rattle.gs_cache.proofs.Turning.{recent}
use Rattle.gs_cache.proofs.seen.SeenCache.held.Goals as goal

pub returns-clause-recent : goal.returns-clause-recent
returns-clause-recent c = rw (← c.self.view_is) (recent c.self.inside.ttl.0 c.self.inside.newer c.self.inside.older c.self.invariant)
