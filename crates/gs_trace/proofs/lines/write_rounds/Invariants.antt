use Rattle.std.proofs.Common.{◌≤◌}
use Rattle.gs_trace.specs.Pages.{Adds}
use Rattle.gs_trace.specs.Starts.{StandAt, told_by}
use Rattle.gs_trace.specs.Wanted.{line_if, wishes_of}
use Rattle.gs_trace.proofs.Starts.{text_to}
use Rattle.gs_trace.proofs.lines.write_rounds.Given as goal

-- the lines of the rounds so far came onto the page
abbrev pub invariant-loop-round : goal.invariant-loop-round
invariant-loop-round g l = record {
  low : l.round ≤ l.walk.plan.now.rounds;
  readers : StandAt l.walk.plan.now l.round 0 l.walk.peers.now l.readers;
  text : Adds (text_to (line_if (wishes_of l.walk.wanted.now) l.walk.plan.now) (told_by l.walk.plan.now l.walk.peers.now) l.round)
      l.initial.page.items l.page.items (g.W.Write.contents l.initial.output) (g.W.Write.contents l.output);
}
