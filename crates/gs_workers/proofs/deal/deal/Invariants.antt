use Rattle.std.proofs.Common.{◌≡◌, List, ◌++◌, vec_len}
use Rattle.std.specs.VecDeque.{deque_len}
use Rattle.futures.specs.declared.future.made.maybe_done.MaybeDone.TheVariants.{Future as FutureValue}
use Rattle.gs_workers.specs.Deals.{IsDealt, lists_of}
use Rattle.gs_workers.proofs.deal.deal.Given as goal

-- the last of them are dealt
abbrev pub invariant-loop-future : goal.invariant-loop-future
invariant-loop-future g l =
    (deque_len l.groups ≡ l.fn.count)
    × (dealt : List g.row.F.Denot)
    × (l.fn.futures.items ≡ l.futures.items ++ dealt)
    × IsDealt (λ future member. member ≡ FutureValue future) dealt (lists_of l.groups.items)

abbrev pub decreases-loop-future : goal.decreases-loop-future
decreases-loop-future g l = vec_len l.futures
