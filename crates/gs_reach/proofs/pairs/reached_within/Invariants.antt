use Rattle.std.proofs.Common.{◌≡◌, ◌≤◌, take}
use Rattle.gs_reach.specs.Reached.{reached_within}
use Rattle.gs_reach.proofs.pairs.reached_within.Given as goal

-- those so far are counted
abbrev pub invariant-loop-pair : goal.invariant-loop-pair
invariant-loop-pair l = record {
  counted : l.count ≡ reached_within l.rounds (take l.pair-index l.pairs);
  below : l.count ≤ l.pair-index;
}
