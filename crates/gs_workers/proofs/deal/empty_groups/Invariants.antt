use Rattle.std.proofs.Common.{◌≡◌, []}
use Rattle.std.specs.List.{AllByRecursion}
use Rattle.std.specs.VecDeque.{deque_len}
use Rattle.gs_workers.specs.Deals.{lists_of}
use Rattle.gs_workers.proofs.deal.empty_groups.Given as goal

abbrev pub invariant-loop : goal.invariant-loop
invariant-loop g l = (deque_len l.groups ≡ l.counter) × AllByRecursion (λ group. group ≡ []) (lists_of l.groups.items)
