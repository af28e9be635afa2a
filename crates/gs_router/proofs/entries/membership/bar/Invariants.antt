use Rattle.std.proofs.Common.{◌≡◌, ◌++◌, drop}
use Rattle.gs_rules.specs.Membership.{barring}
use Rattle.gs_router.proofs.entries.membership.bar.Given as goal

abbrev pub invariant-loop-pair : goal.invariant-loop-pair
invariant-loop-pair l =
    l.marks ++ barring l.fn.now.0 l.seconds (drop l.pair-index l.pairs) ≡ l.initial.marks ++ barring l.fn.now.0 l.seconds l.pairs
