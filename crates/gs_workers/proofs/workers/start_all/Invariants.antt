use Rattle.std.proofs.Common.{◌≡◌, ◌≤◌, ◌+◌, ◌++◌, length, map, vec_capacity}
use Rattle.std.specs.List.{AllByRecursion}
use Rattle.std.specs.VecDeque.{deque_len}
use Rattle.gs_workers.specs.Deals.{lists_of}
use Rattle.gs_workers.specs.Groups.{AllLive}
use Rattle.gs_workers.proofs.workers.start_all.Given as goal

abbrev pub invariant-loop-group : goal.invariant-loop-group
invariant-loop-group g l =
    AllByRecursion (AllLive g.F.Future.can_poll) (lists_of l.groups.items)
    × (length l.workers.items + deque_len l.groups ≡ deque_len l.fn.groups)
    × (length l.workers.items + deque_len l.groups ≤ vec_capacity l.workers)
    × (map (λ worker. worker.promise.0.value.items) l.workers.items ++ lists_of l.groups.items ≡ lists_of l.fn.groups.items)
    × AllByRecursion (λ worker. worker.promise.1.value ≡ l.fn.stop) l.workers.items

abbrev pub decreases-loop-group : goal.decreases-loop-group
decreases-loop-group g l = deque_len l.groups
