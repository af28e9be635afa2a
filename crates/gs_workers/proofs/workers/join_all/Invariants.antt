use Rattle.std.proofs.Common.{◌≡◌, length, map}
use Rattle.std.specs.List.{AllZip}
use Rattle.std.specs.VecDeque.{deque_len}
use Rattle.gs_workers.specs.Deals.{lists_of}
use Rattle.gs_workers.specs.Groups.{AllEnd}
use Rattle.gs_workers.proofs.workers.join_all.Given as goal

abbrev pub invariant-loop-worker : goal.invariant-loop-worker
invariant-loop-worker g l =
    (goal.iterator-loop-worker g).can_next l.worker-iterator
    × (goal.iterator-loop-worker g).is_finite l.worker-iterator
    × (deque_len l.groups ≡ length l.yielded)
    × AllZip (AllEnd g.F.Future.gives) (map (λ worker. worker.promise.0.value.items) l.yielded) (lists_of l.groups.items)
