use Rattle.gs_cache.proofs.Shifting.{is_shifted}
use Rattle.gs_cache.proofs.message_cache.MessageCache.shift.Goals as goal

pub returns-clause-ages : goal.returns-clause-ages
returns-clause-ages c = rw (← c.self.view_is)
    (is_shifted c.new.result c.new.ensures.order c.new.ensures.puts c.self.inside.answers c.self.inside.windows.len c.self.inside.windows.items c.rotate_right.new.self.items c.self.inside.windows.ok.0 c.self.invariant c.rotate_right.ensures.items).ages

pub returns-clause-keeps : goal.returns-clause-keeps
returns-clause-keeps c = rw (← c.self.view_is)
    (is_shifted c.new.result c.new.ensures.order c.new.ensures.puts c.self.inside.answers c.self.inside.windows.len c.self.inside.windows.items c.rotate_right.new.self.items c.self.inside.windows.ok.0 c.self.invariant c.rotate_right.ensures.items).keeps

pub returns-clause-orders : goal.returns-clause-orders
returns-clause-orders c = rw (← c.self.view_is)
    (is_shifted c.new.result c.new.ensures.order c.new.ensures.puts c.self.inside.answers c.self.inside.windows.len c.self.inside.windows.items c.rotate_right.new.self.items c.self.inside.windows.ok.0 c.self.invariant c.rotate_right.ensures.items).orders
