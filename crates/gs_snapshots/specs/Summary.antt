-- A summary of one neighbour over the moments of a run.
use Rattle.std.specs.Prelude.{ℤ, pos, List}
use Rattle.gs_base.specs.declared.names.PeerNo.{PeerNo}
use Rattle.gs_params.specs.declared.params.Thresholds.{Thresholds}
use Rattle.gs_rules.specs.declared.fallen.Fallen.{Fallen}
use Rattle.gs_snapshots.specs.declared.snapshot.Snapshot.{Snapshot}
use Rattle.gs_snapshots.specs.declared.summary.Summary.{Summary}
use Rattle.gs_snapshots.specs.Courses.{course_of}
use Rattle.gs_snapshots.specs.Falls.{falls_of}
use Rattle.gs_snapshots.specs.Lowest.{lowest}

abbrev pub score_in : Snapshot → ℤ
score_in s = s.parts.score

-- the summary of a neighbour, from its snapshots, the oldest first, and from everything that had no effect
abbrev pub summary_of : Thresholds → PeerNo → List Snapshot → List Fallen → Summary
summary_of t q ss all = record {
  neighbour = q;
  zero = course_of (pos 0) ss;
  gossip = course_of t.gossip_threshold ss;
  publish = course_of t.publish_threshold ss;
  graylist = course_of t.graylist_threshold ss;
  lowest = lowest score_in ss;
  falls = falls_of q all;
}
