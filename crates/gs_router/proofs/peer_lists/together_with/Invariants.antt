use Rattle.std.proofs.Common.{◌≡◌, drop}
use Rattle.gs_rules.specs.Rules.{together_with}
use Rattle.gs_router.proofs.peer_lists.together_with.Given as goal

abbrev pub invariant-loop-other : goal.invariant-loop-other
invariant-loop-other l =
    together_with (drop l.other-index l.others) l.found.items ≡ together_with l.others l.peers
