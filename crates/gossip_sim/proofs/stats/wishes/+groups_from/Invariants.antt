use Rattle.std.proofs.Common.{length}
use Rattle.gossip_sim.proofs.stats.wishes.+groups_from.Given as goal

abbrev pub decreases-groups_from : goal.decreases-groups_from
decreases-groups_from l = length l.given.now
