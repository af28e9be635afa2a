use Rattle.std.proofs.Common.{◌≡◌, ◌≤◌}
use Rattle.gs_score.specs.Counters.{decayed}
use Rattle.gs_score.proofs.counter.Decay.after.Given as goal

abbrev pub invariant-loop-left : goal.invariant-loop-left
invariant-loop-left l = record {
  rest : decayed l.self l.left l.held ≡ decayed l.self l.steps l.value;
  falls : l.held ≤ l.value;
}

abbrev pub decreases-loop-left : goal.decreases-loop-left
decreases-loop-left l = l.left
