use Rattle.std.proofs.Common.{◌≡◌, take}
use Rattle.gs_reach.specs.Reached.{rounds_of}
use Rattle.gs_picture.proofs.courses.rounds_of.Given as goal

-- the rounds of those so far
abbrev pub invariant-loop-pair : goal.invariant-loop-pair
invariant-loop-pair l = l.all.items ≡ rounds_of (take l.pair-index l.pairs)
