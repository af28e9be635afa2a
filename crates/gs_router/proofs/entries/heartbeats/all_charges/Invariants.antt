use Rattle.std.proofs.Common.{◌≡◌, ◌++◌, drop}
use Rattle.std.specs.List.{flat_map}
use Rattle.gs_base.specs.Names.{peers_of}
use Rattle.gs_rules.specs.Tables.{Entries}
use Rattle.gs_rules.specs.Gossip.{charges}
use Rattle.gs_router.specs.Tables.{Agrees}
use Rattle.gs_router.proofs.entries.heartbeats.all_charges.Given as goal

abbrev pub invariant-loop-neighbour : goal.invariant-loop-neighbour
invariant-loop-neighbour l =
    (L : Entries) → Agrees l.known.tables L
    → l.marks ++ flat_map (charges L l.now.0) (peers_of (drop l.neighbour-index l.neighbour-items)) ≡ flat_map (charges L l.now.0) (peers_of l.neighbour-items)
