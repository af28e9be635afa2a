use Rattle.std.proofs.Common.{rules, arith}
use Rattle.gs_snapshots.specs.Wishes.{has_name, wishes_of}
use Rattle.gs_snapshots.proofs.Fronts.{passing_more}
use Rattle.gs_snapshots.proofs.scores.wanted_neighbours.Goals as goal
use Rattle.gs_snapshots.proofs.scores.wanted_neighbours.Goals.{then-has_name+in_ok-push, else-has_name}

pub loop-neighbour-preserved : goal.loop-neighbour-preserved
loop-neighbour-preserved c =
    passing_more (has_name (wishes_of c.args.wanted.now).neighbour c.args.plan.now) c.deref-neighbour-items.result.now c.loop-neighbour.neighbour-index c.neighbour-item.result c.loop-neighbour.list.items _
    c.loop-neighbour-test.true c.neighbour-item.is c.loop-neighbour.invariant
    (elim c.if-has_name.branch [ then-has_name+in_ok-push w ↦ grind (arith, w.in_ok-push.ensures.items) | else-has_name w ↦ search rules ])
