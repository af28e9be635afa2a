use Rattle.std.proofs.Common.{◌≡◌, ◌++◌, drop}
use Rattle.gs_picture.proofs.Counting.{counted}
use Rattle.gs_picture.proofs.courses.steps_in.Given as goal

-- the steps so far, and those of the numbers that are left, are those of all
abbrev pub invariant-loop-place : goal.invariant-loop-place
invariant-loop-place l = l.found.items ++ counted l.place (drop l.place l.rounds) ≡ counted 0 l.rounds
