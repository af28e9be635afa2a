use Rattle.std.proofs.Common.{◌≡◌, ◌++◌, drop}
use Rattle.gs_rules.specs.MeshRules.{those_outside}
use Rattle.gs_router.proofs.peer_lists.those_outside.Given as goal

abbrev pub invariant-loop-peer : goal.invariant-loop-peer
invariant-loop-peer l =
    l.found.items ++ those_outside l.others (drop l.peer-index l.peers) ≡ those_outside l.others l.peers
