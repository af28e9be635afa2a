use Rattle.std.proofs.Common.{◌≡◌, take}
use Rattle.gs_reach.specs.Messages.{pairs_of}
use Rattle.gs_reach.proofs.messages.pairs_of.Given as goal

-- the pairs of the peers so far
abbrev pub invariant-loop-peer : goal.invariant-loop-peer
invariant-loop-peer l = l.pairs ≡ pairs_of l.run.plan.now l.run.all l.message (take l.peer-index l.run.numbers.now)
