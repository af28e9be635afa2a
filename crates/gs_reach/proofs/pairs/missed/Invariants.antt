use Rattle.std.proofs.Common.{◌≡◌, ◌≤◌, take}
use Rattle.gs_reach.specs.Reached.{missed}
use Rattle.gs_reach.proofs.pairs.missed.Given as goal

-- those so far are counted
abbrev pub invariant-loop-pair : goal.invariant-loop-pair
invariant-loop-pair l = record {
  counted : l.count ≡ missed (take l.pair-index l.pairs);
  below : l.count ≤ l.pair-index;
}
