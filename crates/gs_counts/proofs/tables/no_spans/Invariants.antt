use Rattle.std.proofs.Common.{◌≡◌}
use Rattle.gs_counts.specs.Standing.{no_spans}
use Rattle.gs_counts.proofs.tables.no_spans.Given as goal

-- one for each number so far
abbrev pub invariant-loop : goal.invariant-loop
invariant-loop l = l.spans.items ≡ no_spans l.counter
