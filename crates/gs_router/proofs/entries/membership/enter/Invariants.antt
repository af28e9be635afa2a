use Rattle.std.proofs.Common.{◌≡◌, ◌++◌, drop}
use Rattle.gs_rules.specs.Membership.{entering}
use Rattle.gs_router.proofs.entries.membership.enter.Given as goal

abbrev pub invariant-loop-pair : goal.invariant-loop-pair
invariant-loop-pair l =
    l.marks ++ entering (drop l.pair-index l.pairs) ≡ l.initial.marks ++ entering l.pairs
