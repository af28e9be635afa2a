use Rattle.std.proofs.Common.{◌≡◌}
use Rattle.gs_opinions.specs.Listing.{rows_at}
use Rattle.std.specs.List.{flat_map, range_with_len}
use Rattle.gs_opinions.proofs.run.pair_rows.Given as goal

-- the rows of the numbers so far
abbrev pub invariant-loop-number : goal.invariant-loop-number
invariant-loop-number l = l.pairs ≡ flat_map (rows_at l.rows l.count) (range_with_len 0 l.number)
