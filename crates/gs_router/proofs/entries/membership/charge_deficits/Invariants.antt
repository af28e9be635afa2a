use Rattle.std.proofs.Common.{◌≡◌, ◌++◌, drop}
use Rattle.std.specs.List.{flat_map}
use Rattle.gs_rules.specs.Tables.{Entries}
use Rattle.gs_rules.specs.Membership.{deficit_marks}
use Rattle.gs_router.specs.Known.{Knows, peer_with}
use Rattle.gs_router.proofs.entries.membership.charge_deficits.Given as goal

abbrev pub invariant-loop-pair : goal.invariant-loop-pair
invariant-loop-pair l =
    (L : Entries) → Knows l.known l.now.0 L
    → l.marks ++ flat_map (deficit_marks (peer_with l.known.setup) L l.now.0) (drop l.pair-index l.pairs)
    ≡ l.initial.marks ++ flat_map (deficit_marks (peer_with l.known.setup) L l.now.0) l.pairs
