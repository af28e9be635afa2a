use Rattle.std.proofs.Common.{◌≡◌, take}
use Rattle.gs_picture.specs.Courses.{longest}
use Rattle.gs_picture.proofs.courses.longest.Given as goal

-- the most rounds of those so far
abbrev pub invariant-loop-pair : goal.invariant-loop-pair
invariant-loop-pair l = l.so_far ≡ longest (take l.pair-index l.pairs)
