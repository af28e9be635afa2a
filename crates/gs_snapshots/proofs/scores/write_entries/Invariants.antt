use Rattle.std.proofs.Common.{drop, reverse, take}
use Rattle.gs_trace.specs.Pages.{Adds}
use Rattle.gs_snapshots.specs.Telling.{FollowsPeer, told_at}
use Rattle.gs_snapshots.proofs.scores.write_entries.Given as goal

-- the reader has seen the entries so far, and what is told at them came onto the page
abbrev pub invariant-loop-entry : goal.invariant-loop-entry
invariant-loop-entry g l = record {
  follows : FollowsPeer l.follower l.asked.plan.now l.asked.peer (reverse (take l.entry-index l.entries)) (drop l.entry-index l.entries);
  added : Adds (told_at l.asked (reverse (take l.entry-index l.entries)))
      l.initial.page.items l.page.items (g.W.Write.contents l.initial.output) (g.W.Write.contents l.output);
}
