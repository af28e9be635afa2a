use Rattle.std.proofs.Common.{◌≡◌, ◌≤◌, ◌+◌, ◌++◌, List, Ok, length, map}
use Rattle.gs_net.specs.Given.{Given}
use Rattle.gs_net.specs.Lives.{IsTakenApart}
use Rattle.gs_net.proofs.lives.lives_of.Given as goal

abbrev pub invariant-loop-result : goal.invariant-loop-result
invariant-loop-result g l =
    (goal.iterator-loop-result g).can_next l.result-iterator
    × (goal.iterator-loop-result g).is_finite l.result-iterator
    × (l.yielded ++ l.result-iterator.rest.items ≡ l.fn.results.items)
    × (length l.peers.items + length l.result-iterator.rest.items ≤ 4096)
    × ((givens : List Given) × (map Ok givens ≡ l.yielded) × IsTakenApart givens (record { peers = l.peers; ends = l.ends }))
