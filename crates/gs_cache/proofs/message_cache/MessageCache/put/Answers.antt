use Rattle.gs_cache.proofs.Putting.{is_put}
use Rattle.gs_cache.proofs.message_cache.MessageCache.put.Goals as goal

pub returns-clause-holds : goal.returns-clause-holds
returns-clause-holds c = rw (← c.self.view_is)
    (is_put c.args.id c.args.topic c.args.message c.self.inside.answers c.self.inside.windows.items c.index_mut.result.now c.put.new.self c.self.invariant c.index_mut.ensures.value c.in_ok-put.ensures.puts).holds

pub returns-clause-resets : goal.returns-clause-resets
returns-clause-resets c = rw (← c.self.view_is)
    (is_put c.args.id c.args.topic c.args.message c.self.inside.answers c.self.inside.windows.items c.index_mut.result.now c.put.new.self c.self.invariant c.index_mut.ensures.value c.in_ok-put.ensures.puts).resets

pub returns-clause-orders : goal.returns-clause-orders
returns-clause-orders c = rw (← c.self.view_is)
    (is_put c.args.id c.args.topic c.args.message c.self.inside.answers c.self.inside.windows.items c.index_mut.result.now c.put.new.self c.self.invariant c.index_mut.ensures.value c.in_ok-put.ensures.puts).orders
