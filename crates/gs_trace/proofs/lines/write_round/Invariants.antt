use Rattle.std.proofs.Common.{take}
use Rattle.std.specs.List.{flat_map}
use Rattle.gs_trace.specs.Lines.{told_of}
use Rattle.gs_trace.specs.Pages.{Adds}
use Rattle.gs_trace.specs.Starts.{StandAt}
use Rattle.gs_trace.specs.Wanted.{line_if, wishes_of}
use Rattle.gs_trace.proofs.lines.write_round.Given as goal

-- the lines of the peers so far came onto the page, and their readers stand at the beginning of the next round
abbrev pub invariant-loop-place : goal.invariant-loop-place
invariant-loop-place g l = record {
  readers : StandAt l.walk.plan.now l.round l.place l.walk.peers.now l.readers;
  text : Adds (flat_map (line_if (wishes_of l.walk.wanted.now) l.walk.plan.now) (flat_map (told_of l.walk.plan.now l.round) (take l.place l.walk.peers.now)))
      l.initial.page.items l.page.items (g.W.Write.contents l.initial.output) (g.W.Write.contents l.output);
}
