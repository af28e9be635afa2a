use Rattle.std.proofs.Common.{List}
use Rattle.gs_workers.specs.Deals.{IsDealt, lists_of}
use Rattle.gs_workers.proofs.Dealing.{total}
use Rattle.gs_workers.proofs.Gathering.{EndsFor, IsGathered}
use Rattle.gs_workers.proofs.deal.gather.Given as goal

abbrev pub invariant-loop-group : goal.invariant-loop-group
invariant-loop-group g l =
    (futures : List g.row.F.Denot)
    → IsDealt (EndsFor g.F.Future.gives) futures (lists_of l.fn.groups.items)
    → IsGathered g.F.Future.gives futures l.outputs.items (lists_of l.groups.items)

abbrev pub decreases-loop-group : goal.decreases-loop-group
decreases-loop-group g l = total (lists_of l.groups.items)
