use Rattle.std.proofs.Common.{◌≡◌, ◌++◌, take}
use Rattle.std.specs.List.{flat_map}
use Rattle.gs_snapshots.specs.SummaryText.{summary_block}
use Rattle.gs_snapshots.proofs.summary_writer.push_blocks.Given as goal

-- the summaries so far come after what was there
abbrev pub invariant-loop-summary : goal.invariant-loop-summary
invariant-loop-summary l = l.out.items ≡ l.initial.out.items ++ flat_map (summary_block l.plan l.peer) (take l.summary-index l.summaries)
