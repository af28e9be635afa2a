use Rattle.std.proofs.Common.{◌≡◌, ◌++◌, drop}
use Rattle.gs_rules.specs.Tables.{Entries}
use Rattle.gs_rules.specs.BeatRules.{scored_members}
use Rattle.gs_router.specs.Known.{Knows, peer_with}
use Rattle.gs_router.proofs.entries.maintenance.scored_members.Given as goal

abbrev pub invariant-loop-peer : goal.invariant-loop-peer
invariant-loop-peer l =
    (L : Entries) → Knows l.known l.now.0 L
    → l.members.items ++ scored_members (peer_with l.known.setup) L l.now.0 (drop l.peer-index l.peers)
    ≡ scored_members (peer_with l.known.setup) L l.now.0 l.peers
