use Rattle.std.proofs.Common.{◌≡◌, ◌++◌, drop}
use Rattle.gs_rules.specs.Rules.{to_each}
use Rattle.gs_router.proofs.entries.sends.send_to_each.Given as goal

abbrev pub invariant-loop-receiver : goal.invariant-loop-receiver
invariant-loop-receiver l =
    l.sends ++ to_each l.fn.rpc (drop l.receiver-index l.receivers) ≡ l.initial.sends ++ to_each l.fn.rpc l.receivers
