use Rattle.std.proofs.Common.{◌≡◌}
use Rattle.gs_opinions.specs.Cells.{by_number}
use Rattle.gs_opinions.proofs.cells.filled.Given as goal

-- the value for each number so far
abbrev pub invariant-loop : goal.invariant-loop
invariant-loop g l = l.cells ≡ by_number (λ n. l.value) l.counter
