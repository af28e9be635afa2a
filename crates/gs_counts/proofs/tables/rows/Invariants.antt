use Rattle.std.proofs.Common.{◌≡◌}
use Rattle.gs_counts.specs.Standing.{empty_rows}
use Rattle.gs_counts.proofs.tables.rows.Given as goal

-- a row for each number so far
abbrev pub invariant-loop : goal.invariant-loop
invariant-loop l = l.rows.items ≡ empty_rows l.counter
