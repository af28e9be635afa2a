use Rattle.std.proofs.Common.{◌≡◌, map, pos, take}
use Rattle.gs_counts.specs.Meshes.{members_in, span_of}
use Rattle.gs_figure_sheets.proofs.standing.span_of_meshes.Given as goal

-- the span of the meshes so far
abbrev pub invariant-loop-topic : goal.invariant-loop-topic
invariant-loop-topic l = l.span ≡ span_of (map pos (map (members_in l.members) (take l.topic-index l.topics)))
