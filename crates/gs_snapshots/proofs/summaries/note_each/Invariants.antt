use Rattle.std.proofs.Common.{◌≡◌, take}
use Rattle.gs_snapshots.specs.Noting.{with_each}
use Rattle.gs_snapshots.proofs.summaries.note_each.Given as goal

-- what came to nothing so far is noted
abbrev pub invariant-loop-fallen : goal.invariant-loop-fallen
invariant-loop-fallen l = l.summaries ≡ with_each (take l.fallen-index l.all) l.fn.summaries
