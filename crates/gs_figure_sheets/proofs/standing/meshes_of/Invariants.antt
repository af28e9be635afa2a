use Rattle.std.proofs.Common.{◌≡◌, List, length, map, take}
use Rattle.gs_base.specs.declared.names.PeerNo.{PeerNo}
use Rattle.gs_counts.specs.Counting.{HasCounted}
use Rattle.gs_plan.specs.declared.plan.Plan.{Plan}
use Rattle.gs_report.specs.Seen.{AreLives}
use Rattle.gs_rules.specs.Tables.{Entries}
use Rattle.gs_figure_sheets.specs.Standings.{meshes_if}
use Rattle.gs_figure_sheets.proofs.Standings.{Life, left}
use Rattle.gs_figure_sheets.proofs.standing.meshes_of.Given as goal

-- the meshes of the peers so far
abbrev pub invariant-loop-one : goal.invariant-loop-one
invariant-loop-one l =
    (plan : Plan) (traces : PeerNo → Entries) (lives : List Life)
    → HasCounted plan l.among l.counting traces
    → AreLives (length plan.peers) traces lives
    → map left lives ≡ l.remains
    → l.meshes.items ≡ map (meshes_if l.among) (take l.one-index lives)
