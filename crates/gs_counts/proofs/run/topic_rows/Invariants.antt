use Rattle.std.proofs.Common.{◌≡◌, ◌++◌, map}
use Rattle.gs_counts.proofs.Sorted.{as_row}
use Rattle.gs_counts.proofs.run.topic_rows.Given as goal

-- the rows so far, and those of the topics that are left
abbrev pub invariant-loop-topic : goal.invariant-loop-topic
invariant-loop-topic l = l.topics ++ map as_row l.topic-iterator ≡ map as_row l.rows.entries
