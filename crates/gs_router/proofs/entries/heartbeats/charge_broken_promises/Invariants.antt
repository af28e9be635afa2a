use Rattle.std.proofs.Common.{◌≡◌, ◌++◌, drop}
use Rattle.gs_router.proofs.Charging.{charged}
use Rattle.gs_router.proofs.entries.heartbeats.charge_broken_promises.Given as goal

abbrev pub invariant-loop-promise : goal.invariant-loop-promise
invariant-loop-promise l =
    l.marks ++ charged l.peer l.now.0 (drop l.promise-index l.promise-items) ≡ l.initial.marks ++ charged l.peer l.now.0 l.promise-items
