use Rattle.std.proofs.Common.{◌≡◌, ◌++◌, drop}
use Rattle.gs_base.specs.Names.{peers_of}
use Rattle.gs_net.proofs.tasks.numbers_of.Given as goal

abbrev pub invariant-loop-neighbour : goal.invariant-loop-neighbour
invariant-loop-neighbour l = l.found.items ++ peers_of (drop l.neighbour-index l.neighbours) ≡ peers_of l.neighbours
