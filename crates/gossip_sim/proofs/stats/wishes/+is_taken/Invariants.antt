use Rattle.std.proofs.Common.{length}
use Rattle.gossip_sim.proofs.stats.wishes.+is_taken.Given as goal

abbrev pub decreases-is_taken : goal.decreases-is_taken
decreases-is_taken l = length l.groups.now
