use Rattle.gs_reach.proofs.Listings.{new_more}
use Rattle.gs_reach.proofs.listing.Listing.new.Goals as goal

pub loop-number-preserved : goal.loop-number-preserved
loop-number-preserved c = new_more c.loop-number.number c.nothing.result _ _ c.loop-number.invariant c.nothing.ensures c.in_ok-push.ensures.items
