use Rattle.std.proofs.Common.{◌≡◌, ◌++◌, drop, filter}
use Rattle.gs_base.specs.declared.neighbour.Neighbour.{Neighbour}
use Rattle.gs_base.specs.Names.{peers_of}
use Rattle.gs_router.proofs.setup.explicit_among.Given as goal

abbrev pub invariant-loop-neighbour : goal.invariant-loop-neighbour
invariant-loop-neighbour l =
    l.found.items ++ peers_of (filter (λ (n : Neighbour). n.explicit) (drop l.neighbour-index l.neighbours))
    ≡ peers_of (filter (λ (n : Neighbour). n.explicit) l.neighbours)
