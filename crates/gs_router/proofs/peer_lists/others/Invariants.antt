use Rattle.std.proofs.Common.{◌≡◌, ◌++◌, drop}
use Rattle.gs_mesh.specs.Peers.{without}
use Rattle.gs_router.proofs.peer_lists.others.Given as goal

abbrev pub invariant-loop-member : goal.invariant-loop-member
invariant-loop-member l =
    l.others.items ++ without l.from (drop l.member-index l.members) ≡ without l.from l.members
