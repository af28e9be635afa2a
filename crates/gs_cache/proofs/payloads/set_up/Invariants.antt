use Rattle.std.proofs.Common.{All}
use Rattle.gs_cache.specs.Payloads.{IsRight}
use Rattle.gs_cache.proofs.payloads.set_up.Given as goal

abbrev pub invariant-loop : goal.invariant-loop
invariant-loop l = All IsRight l.slots.items
