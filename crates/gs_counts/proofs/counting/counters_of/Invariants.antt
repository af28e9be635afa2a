use Rattle.std.proofs.Common.{[]}
use Rattle.gs_counts.specs.Counting.{AreCounters}
use Rattle.gs_counts.proofs.counting.counters_of.Given as goal

-- the counters of the peers so far
abbrev pub invariant-loop-number : goal.invariant-loop-number
invariant-loop-number l = AreCounters l.number l.plan l.of l.counters.items (λ p. [])
