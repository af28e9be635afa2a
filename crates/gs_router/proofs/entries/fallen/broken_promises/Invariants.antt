use Rattle.std.proofs.Common.{◌≡◌, ◌++◌, drop, map}
use Rattle.std.specs.List.{flat_map}
use Rattle.gs_base.specs.Names.{peers_of}
use Rattle.gs_rules.specs.Tables.{Entries}
use Rattle.gs_rules.specs.FellAway.{broken_by}
use Rattle.gs_rules.specs.declared.fallen.Fallen.TheVariants as fallen
use Rattle.gs_router.specs.Tables.{Agrees}
use Rattle.gs_router.proofs.entries.fallen.broken_promises.Given as goal

abbrev pub invariant-loop-neighbour : goal.invariant-loop-neighbour
invariant-loop-neighbour l =
    (L : Entries) → Agrees l.known.tables L
    → l.list.items ++ map fallen.Broken (flat_map (broken_by L l.now.0) (peers_of (drop l.neighbour-index l.neighbour-items)))
    ≡ map fallen.Broken (flat_map (broken_by L l.now.0) (peers_of l.neighbour-items))
