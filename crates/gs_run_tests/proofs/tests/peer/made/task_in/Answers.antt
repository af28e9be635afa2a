use Rattle.std.proofs.Common.{◌≡◌, ◌≤◌, ◌∙◌, List, [], ◌∷◌, true, arith, rules, sym, subst, ap}
use Rattle.std.specs.List.{AllByRecursion}
use Rattle.gs_base.specs.declared.names.PeerNo.{PeerNo}
use Rattle.gs_params.specs.Picks.{IsAscending}
use Rattle.gs_ends.specs.Ends.{has}
use Rattle.gs_run_tests.proofs.tests.peer.made.task_in.Goals as goal

-- one neighbour ascends
one_ascends : (q : PeerNo) → IsAscending (q ∷ [])
one_ascends q = λ i j d before within. absurd (omega (arith, before, within))

pub task_given-requires-clause-small : goal.task_given-requires-clause-small
task_given-requires-clause-small g c =
    let low : c.args.rounds ≤ 100000 = c.requires.rounds in
    rw (c.in_ok-given.ensures.rounds, c.in_ok-given.ensures.length, c.in_ok-given.ensures.phase) (omega (arith, low))

pub task_given-requires-clause-ascending : goal.task_given-requires-clause-ascending
task_given-requires-clause-ascending g c =
    rw (c.in_ok-given.ensures.neighbours, c.in_ok-neighbours.ensures.items) (one_ascends c.args.pair.other)

pub task_given-requires-clause-known : goal.task_given-requires-clause-known
task_given-requires-clause-known g c =
    rw (c.in_ok-given.ensures.neighbours, c.in_ok-neighbours.ensures.items) (c.requires.known, tt)
