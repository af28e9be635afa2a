use Rattle.std.proofs.Common.{◌≡◌, ◌++◌, drop, filter}
use Rattle.gs_base.specs.Names.{peers_of}
use Rattle.gs_rules.specs.Tables.{Entries}
use Rattle.gs_rules.specs.Membership.{is_candidate}
use Rattle.gs_router.specs.Known.{Knows, peer_with}
use Rattle.gs_router.proofs.entries.selection.candidates.Given as goal

abbrev pub invariant-loop-neighbour : goal.invariant-loop-neighbour
invariant-loop-neighbour l =
    (L : Entries) → Knows l.known l.now.0 L
    → l.found.items ++ filter (is_candidate (peer_with l.known.setup) L l.now.0 l.topic) (peers_of (drop l.neighbour-index l.neighbour-items))
    ≡ filter (is_candidate (peer_with l.known.setup) L l.now.0 l.topic) (peers_of l.neighbour-items)
