-- How peers stand when a run has ended.
use Rattle.std.specs.Prelude.{ℕ, pos, if◌then◌else◌, List, map, Option, None}
use Rattle.gs_base.specs.declared.names.PeerNo.{PeerNo}
use Rattle.gs_counts.specs.declared.span.Span.{Span}
use Rattle.gs_counts.specs.Meshes.{members_in, span_of}
use Rattle.gs_counts.specs.Topics.{subscribed}
use Rattle.gs_reach.specs.declared.chosen.Chosen.{Chosen}
use Rattle.gs_reach.specs.Chosen.{is_chosen}
use Rattle.gs_report.specs.declared.finished.Finished.{Finished}
use Rattle.gs_report.specs.Seen.{remains_of}
use Rattle.gs_figure_sheets.specs.declared.standing.Standing.{Standing}

-- the sizes of a peer's meshes at the end, for each topic that it is subscribed to
abbrev pub end_sizes : Finished → List ℕ
end_sizes f = map (members_in f.meshes) (subscribed f.trace)

-- the smallest and the largest of these sizes
abbrev pub end_meshes : Finished → Option Span
end_meshes f = span_of (map pos (end_sizes f))

-- the same, if the trace of the peer counts
abbrev pub meshes_if : Chosen → PeerNo × Finished → Option Span
meshes_if among x = if is_chosen among x.0 then end_meshes x.1 else None

-- how a peer stands, where only the traces of some peers count
abbrev pub standing_of : Chosen → PeerNo × Finished → Standing
standing_of among x = record { peer = x.0; meshes = meshes_if among x; remains = remains_of x.1 }
