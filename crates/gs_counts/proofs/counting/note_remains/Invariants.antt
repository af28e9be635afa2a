use Rattle.std.proofs.Common.{List, ◌++◌, take}
use Rattle.gs_plan.specs.declared.plan.Plan.{Plan}
use Rattle.gs_counts.specs.declared.happening.Happening.{Happening}
use Rattle.gs_counts.specs.Counting.{counted_refusals}
use Rattle.gs_counts.specs.Standing.{MeshSize, Shows}
use Rattle.gs_counts.proofs.counting.note_remains.Given as goal

-- the tables show what the peers so far refused
abbrev pub invariant-loop-left : goal.invariant-loop-left
invariant-loop-left l =
    (plan : Plan) (hs : List Happening) (sizes : List MeshSize) → Shows plan l.initial.tables hs sizes
    → Shows plan l.tables (hs ++ counted_refusals l.counters (take l.left-index l.remains)) sizes
