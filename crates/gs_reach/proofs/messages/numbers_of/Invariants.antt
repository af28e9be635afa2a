use Rattle.std.proofs.Common.{◌≡◌, map, take}
use Rattle.gs_reach.proofs.messages.numbers_of.Given as goal

-- the numbers of the peers so far
abbrev pub invariant-loop-peer : goal.invariant-loop-peer
invariant-loop-peer g l = l.numbers.items ≡ map (λ x. x.0) (take l.peer-index l.peers)
