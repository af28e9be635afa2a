use Rattle.std.proofs.Common.{◌≡◌, ◌≤◌, ◌++◌, ◌-◌, drop, length, take}
use Rattle.gs_mesh.specs.Peers.{put_in}
use Rattle.gs_router.proofs.peer_lists.place_of.Given as goal

abbrev pub decreases-loop-place : goal.decreases-loop-place
decreases-loop-place l = length l.peers - l.place

abbrev pub invariant-loop-place : goal.invariant-loop-place
invariant-loop-place l =
    (l.place ≤ length l.peers) × (put_in l.peer l.peers ≡ take l.place l.peers ++ put_in l.peer (drop l.place l.peers))
