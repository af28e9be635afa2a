use Rattle.std.proofs.Common.{◌≡◌, ◌++◌, take}
use Rattle.gs_reach.specs.Chosen.{pairs_among}
use Rattle.gs_reach.proofs.chosen.push_among.Given as goal

-- those so far that count come after what was there
abbrev pub invariant-loop-pair : goal.invariant-loop-pair
invariant-loop-pair l = l.list ≡ l.initial.list ++ pairs_among l.among (take l.pair-index l.pairs)
