use Rattle.std.proofs.Common.{List, ◌++◌, take}
use Rattle.gs_plan.specs.declared.plan.Plan.{Plan}
use Rattle.gs_counts.specs.declared.happening.Happening.{Happening}
use Rattle.gs_counts.specs.Runs.{sizes_of}
use Rattle.gs_counts.specs.Standing.{MeshSize, Shows}
use Rattle.gs_counts.proofs.traces.note_meshes.Given as goal

-- the sizes of the meshes so far are shown
abbrev pub invariant-loop-topic : goal.invariant-loop-topic
invariant-loop-topic l =
    (plan : Plan) (hs : List Happening) (sizes : List MeshSize) → Shows plan l.initial.tables hs sizes
    → Shows plan l.tables hs (sizes ++ sizes_of l.at l.members (take l.topic-index l.topics))
