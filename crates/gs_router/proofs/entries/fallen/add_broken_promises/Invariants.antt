use Rattle.std.proofs.Common.{◌≡◌, ◌++◌, drop, filter, map}
use Rattle.gs_rules.specs.declared.fallen.Fallen.TheVariants as fallen
use Rattle.gs_router.proofs.Charging.{is_overdue}
use Rattle.gs_router.proofs.entries.fallen.add_broken_promises.Given as goal

abbrev pub invariant-loop-promise : goal.invariant-loop-promise
invariant-loop-promise l =
    l.list.items ++ map fallen.Broken (filter (is_overdue l.peer l.now.0) (drop l.promise-index l.promise-items))
    ≡ l.initial.list.items ++ map fallen.Broken (filter (is_overdue l.peer l.now.0) l.promise-items)
