use Rattle.std.proofs.Common.{[]}
use Rattle.std.specs.List.{AllZip}
use Rattle.gs_seats.specs.Rounds.{peer_no}
use Rattle.gs_opinions.specs.Cells.{by_number}
use Rattle.gs_opinions.specs.Noting.{ShowsRow}
use Rattle.gs_opinions.proofs.pairs.empty_rows.Given as goal

-- a row for each number so far
abbrev pub invariant-loop : goal.invariant-loop
invariant-loop l = AllZip (ShowsRow []) (by_number peer_no l.counter) l.rows.items
