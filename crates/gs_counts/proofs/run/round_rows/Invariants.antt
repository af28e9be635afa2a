use Rattle.std.proofs.Common.{◌≡◌, ℕ, Option}
use Rattle.gs_counts.specs.declared.counts.Counts.{Counts}
use Rattle.gs_counts.specs.declared.span.Span.{Span}
use Rattle.gs_counts.specs.Listing.{by_number, round_row}
use Rattle.gs_counts.proofs.run.round_rows.Given as goal

-- the rows of the rounds so far
abbrev pub invariant-loop-place : goal.invariant-loop-place
invariant-loop-place l = (count : ℕ) (row : ℕ → Counts) (span : ℕ → Option Span) → l.rows ≡ by_number row count → l.spans ≡ by_number span count → l.rounds ≡ by_number (round_row row span) l.place
