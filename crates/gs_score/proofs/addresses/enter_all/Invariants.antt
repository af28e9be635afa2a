use Rattle.std.proofs.Common.{◌≡◌, drop, map, []}
use Rattle.indexmap.specs.IndexMap.{insert_all}
use Rattle.gs_base.specs.Names.{same_peer}
use Rattle.gs_score.specs.Addresses.{address_entry_of}
use Rattle.gs_score.proofs.addresses.enter_all.Given as goal

abbrev pub invariant-loop-neighbour : goal.invariant-loop-neighbour
invariant-loop-neighbour l = insert_all same_peer l.addresses.entries (map address_entry_of (drop l.neighbour-index l.neighbours)) ≡ insert_all same_peer [] (map address_entry_of l.neighbours)
