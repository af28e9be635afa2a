use Rattle.std.proofs.Common.{◌≡◌, [], map}
use Rattle.gs_report.specs.Seen.{numbers_below}
use Rattle.gs_reach.specs.Listed.{listed_by}
use Rattle.gs_reach.proofs.listing.Listing.new.Given as goal

-- the peers so far, which have done nothing
abbrev pub invariant-loop-number : goal.invariant-loop-number
invariant-loop-number l = l.peers.items ≡ map (λ p. (p, listed_by p [])) (numbers_below l.number)
