use Rattle.std.proofs.Common.{◌≡◌, take}
use Rattle.gs_reach.specs.Messages.{numbers_of}
use Rattle.gs_figure_sheets.proofs.choice.numbers_of.Given as goal

-- the numbers of the peers so far
abbrev pub invariant-loop-peer : goal.invariant-loop-peer
invariant-loop-peer l = l.numbers.items ≡ numbers_of (take l.peer-index l.peers)
