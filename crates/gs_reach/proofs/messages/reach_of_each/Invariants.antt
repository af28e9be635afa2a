use Rattle.std.proofs.Common.{◌≡◌, map, take}
use Rattle.gs_reach.specs.Messages.{message_reach}
use Rattle.gs_reach.proofs.messages.reach_of_each.Given as goal

-- the reach of those so far
abbrev pub invariant-loop-publication : goal.invariant-loop-publication
invariant-loop-publication l = l.list ≡ map (message_reach l.run.plan.now l.run.all l.run.numbers.now) (take l.publication-index l.publications)
