use Rattle.std.proofs.Common.{◌≡◌, drop, filter, fold}
use Rattle.gs_rules.specs.Tables.{Entries}
use Rattle.gs_rules.specs.Rules.{each_once, is_wanted, once_after}
use Rattle.gs_router.specs.Known.{Knows, peer_with}
use Rattle.gs_router.proofs.entries.offers.wanted.Given as goal

abbrev pub invariant-loop-bytes : goal.invariant-loop-bytes
invariant-loop-bytes l =
    (L : Entries) → Knows l.known l.now.0 L
    → fold once_after l.found.keys (filter (is_wanted (peer_with l.known.setup) L l.now.0) (drop l.bytes-index l.offered))
    ≡ each_once (filter (is_wanted (peer_with l.known.setup) L l.now.0) l.offered)
