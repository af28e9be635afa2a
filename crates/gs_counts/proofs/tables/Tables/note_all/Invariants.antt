use Rattle.std.proofs.Common.{List, ◌++◌, take}
use Rattle.gs_plan.specs.declared.plan.Plan.{Plan}
use Rattle.gs_counts.specs.declared.happening.Happening.{Happening}
use Rattle.gs_counts.specs.Standing.{MeshSize, Shows}
use Rattle.gs_counts.proofs.tables.Tables.note_all.Given as goal

-- the tables show the happenings so far
abbrev pub invariant-loop-happening : goal.invariant-loop-happening
invariant-loop-happening l =
    (plan : Plan) (hs : List Happening) (sizes : List MeshSize) → Shows plan l.initial.self hs sizes → Shows plan l.self (hs ++ take l.happening-index l.list) sizes
