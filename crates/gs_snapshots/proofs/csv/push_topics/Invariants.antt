use Rattle.std.proofs.Common.{◌≡◌, ◌++◌, take}
use Rattle.std.specs.List.{flat_map}
use Rattle.gs_snapshots.specs.Csv.{topic_rows}
use Rattle.gs_snapshots.proofs.csv.push_topics.Given as goal

-- the rows of the topics so far come after what was there
abbrev pub invariant-loop-told : goal.invariant-loop-told
invariant-loop-told l = l.out.items ≡ l.initial.out.items ++ flat_map (topic_rows l.start) (take l.told-index l.topics)
