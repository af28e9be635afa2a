use Rattle.std.proofs.Common.{◌≡◌}
use Rattle.gs_refusals.proofs.sightings.try_sightings.Given as goal

abbrev pub invariant-loop-call : goal.invariant-loop-call
invariant-loop-call l = l.cache.moment ≡ 0

abbrev pub invariant-loop-number : goal.invariant-loop-number
invariant-loop-number l = l.cache.moment ≡ 0
