use Rattle.std.proofs.Common.{◌≡◌, ◌++◌, drop}
use Rattle.gs_rules.specs.Membership.{unfanning}
use Rattle.gs_router.proofs.entries.membership.unfan.Given as goal

abbrev pub invariant-loop-peer : goal.invariant-loop-peer
invariant-loop-peer l =
    l.marks ++ unfanning l.topic (drop l.peer-index l.peers) ≡ l.initial.marks ++ unfanning l.topic l.peers
