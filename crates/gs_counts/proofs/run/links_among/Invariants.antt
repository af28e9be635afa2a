use Rattle.std.proofs.Common.{◌≡◌}
use Rattle.std.specs.List.{flat_map, range_with_len}
use Rattle.gs_seats.specs.Rounds.{neighbours}
use Rattle.gs_counts.specs.Listing.{links_by}
use Rattle.gs_counts.specs.Standing.{link_row, peer_no}
use Rattle.gs_counts.proofs.run.links_among.Given as goal

-- the links from the numbers so far
abbrev pub invariant-loop-number : goal.invariant-loop-number
invariant-loop-number l =
    l.links ≡ flat_map (λ n. links_by (peer_no n) (link_row l.rows (peer_no n)) (neighbours l.plan (peer_no n))) (range_with_len 0 l.number)
