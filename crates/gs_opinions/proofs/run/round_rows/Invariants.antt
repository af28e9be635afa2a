use Rattle.std.proofs.Common.{◌≡◌}
use Rattle.gs_opinions.specs.Cells.{by_number}
use Rattle.gs_opinions.specs.Listing.{round_at}
use Rattle.gs_opinions.proofs.run.round_rows.Given as goal

-- the rows of the rounds so far
abbrev pub invariant-loop-round : goal.invariant-loop-round
invariant-loop-round l = l.rounds ≡ by_number (round_at l.tables) l.round
