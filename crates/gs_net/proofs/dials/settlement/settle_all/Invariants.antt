use Rattle.std.proofs.Common.{length}
use Rattle.gs_net.proofs.Settling.{Settling}
use Rattle.gs_net.proofs.dials.settlement.settle_all.Given as goal

abbrev pub invariant-loop-dial : goal.invariant-loop-dial
invariant-loop-dial g l = Settling l.dials l.fn.lists.items l.left l.lists.items l.settled

abbrev pub decreases-loop-dial : goal.decreases-loop-dial
decreases-loop-dial g l = length l.left
