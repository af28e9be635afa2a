use Rattle.std.proofs.Common.{◌≡◌, ◌++◌, drop}
use Rattle.gs_rules.specs.Membership.{each_on}
use Rattle.gs_router.proofs.entries.membership.each_on.Given as goal

abbrev pub invariant-loop-peer : goal.invariant-loop-peer
invariant-loop-peer l =
    l.pairs.items ++ each_on l.topic (drop l.peer-index l.peers) ≡ each_on l.topic l.peers
