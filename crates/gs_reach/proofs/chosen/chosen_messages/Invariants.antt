use Rattle.std.proofs.Common.{◌≡◌, take}
use Rattle.gs_reach.specs.Chosen.{chosen_messages}
use Rattle.gs_reach.proofs.chosen.chosen_messages.Given as goal

-- the chosen ones of those so far
abbrev pub invariant-loop-message : goal.invariant-loop-message
invariant-loop-message l = l.list ≡ chosen_messages l.by l.among (take l.message-index l.messages)
