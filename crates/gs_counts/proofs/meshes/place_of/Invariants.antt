use Rattle.std.proofs.Common.{◌≡◌, ◌≤◌, ◌++◌, ◌-◌, drop, length, take}
use Rattle.gs_counts.specs.Meshes.{put_member}
use Rattle.gs_counts.proofs.meshes.place_of.Given as goal

abbrev pub decreases-loop-place : goal.decreases-loop-place
decreases-loop-place l = length l.members - l.place

-- the member comes after those before the place
abbrev pub invariant-loop-place : goal.invariant-loop-place
invariant-loop-place l =
    (l.place ≤ length l.members)
    × (put_member l.topic l.peer l.members ≡ take l.place l.members ++ put_member l.topic l.peer (drop l.place l.members))
