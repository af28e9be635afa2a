use Rattle.std.proofs.Common.{◌≡◌, ℕ}
use Rattle.gs_counts.specs.declared.counts.Counts.{Counts}
use Rattle.gs_counts.specs.Listing.{by_number, peer_row}
use Rattle.gs_counts.proofs.run.peer_rows.Given as goal

-- the rows of the numbers so far
abbrev pub invariant-loop-number : goal.invariant-loop-number
invariant-loop-number l = (row : ℕ → Counts) → l.rows ≡ by_number row l.count → l.peers ≡ by_number (peer_row row) l.number
