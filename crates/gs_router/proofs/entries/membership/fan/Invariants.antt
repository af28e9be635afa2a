use Rattle.std.proofs.Common.{◌≡◌, ◌++◌, drop}
use Rattle.gs_rules.specs.Membership.{fanning}
use Rattle.gs_router.proofs.entries.membership.fan.Given as goal

abbrev pub invariant-loop-peer : goal.invariant-loop-peer
invariant-loop-peer l =
    l.marks ++ fanning l.topic (drop l.peer-index l.peers) ≡ l.initial.marks ++ fanning l.topic l.peers
