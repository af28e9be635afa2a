use Rattle.std.proofs.Common.{◌≡◌, take}
use Rattle.gs_reach.specs.Chosen.{accepted_pairs}
use Rattle.gs_reach.proofs.chosen.accepted_pairs.Given as goal

-- the pairs of those so far
abbrev pub invariant-loop-message : goal.invariant-loop-message
invariant-loop-message l = l.list ≡ accepted_pairs l.by l.among (take l.message-index l.messages)
