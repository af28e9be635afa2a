-- What a listing says about each peer.
use Rattle.std.specs.Prelude.{◌≡◌, ℕ, map}
use Rattle.gs_base.specs.declared.names.PeerNo.{PeerNo}
use Rattle.gs_rules.specs.Tables.{Entries}
use Rattle.gs_report.specs.Seen.{numbers_below}
use Rattle.gs_reach.specs.declared.listing.Listing.{Listing}
use Rattle.gs_reach.specs.Listed.{listed_by}

-- the listing has this many peers, by number, and says about each what its trace says
pub record HasListed (count : ℕ) (listing : Listing) (traces : PeerNo → Entries) : Type 0 where
  pub peers : listing.peers.items ≡ map (λ p. (p, listed_by p (traces p))) (numbers_below count)
