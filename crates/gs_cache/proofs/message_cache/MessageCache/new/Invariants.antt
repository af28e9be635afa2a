use Rattle.std.proofs.Common.{◌≡◌, length}
use Rattle.gs_cache.proofs.Making.{AreEmpty}
use Rattle.gs_cache.proofs.message_cache.MessageCache.new.Given as goal

abbrev pub invariant-loop : goal.invariant-loop
invariant-loop l = record { empty : AreEmpty l.windows.items; long : length l.windows.items ≡ l.counter }
