use Rattle.std.proofs.Common.{take}
use Rattle.std.specs.List.{AllZip}
use Rattle.gs_base.specs.Names.{peers_of}
use Rattle.gs_direct.specs.Outlets.{IsNew}
use Rattle.gs_direct.proofs.outlets.outlets_of.Given as goal

-- one to each so far
abbrev pub invariant-loop-neighbour : goal.invariant-loop-neighbour
invariant-loop-neighbour l = AllZip IsNew (peers_of (take l.neighbour-index l.neighbours)) l.outlets.items
