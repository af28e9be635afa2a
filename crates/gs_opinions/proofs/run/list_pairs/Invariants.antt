use Rattle.std.proofs.Common.{◌≡◌, ◌++◌, flat_map}
use Rattle.gs_opinions.proofs.Ascending.{as_row}
use Rattle.gs_opinions.proofs.run.list_pairs.Given as goal

-- the rows so far come after what was listed, and the others are left
abbrev pub invariant-loop-of : goal.invariant-loop-of
invariant-loop-of l = l.pairs ++ flat_map (as_row l.by l.count) l.of-iterator ≡ l.initial.pairs ++ flat_map (as_row l.by l.count) l.row.entries
