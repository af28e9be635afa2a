use Rattle.std.proofs.Common.{◌≡◌, ◌++◌, drop, filter}
use Rattle.gs_base.specs.Names.{peers_of}
use Rattle.gs_rules.specs.Tables.{Entries, up}
use Rattle.gs_router.specs.Tables.{Agrees}
use Rattle.gs_router.proofs.entries.selection.up_neighbours.Given as goal

abbrev pub invariant-loop-neighbour : goal.invariant-loop-neighbour
invariant-loop-neighbour l =
    (L : Entries) → Agrees l.known.tables L
    → l.receivers.items ++ filter (up L) (peers_of (drop l.neighbour-index l.neighbour-items)) ≡ filter (up L) (peers_of l.neighbour-items)
