use Rattle.std.proofs.Common.{◌≡◌, ◌++◌, drop}
use Rattle.gs_base.specs.declared.names.PeerNo.{PeerNo}
use Rattle.gs_rules.specs.Tables.{Entries}
use Rattle.gs_rules.specs.Scoring.{is_below, score}
use Rattle.gs_rules.specs.Rules.{without}
use Rattle.gs_router.specs.Known.{Knows, peer_with}
use Rattle.gs_router.proofs.entries.thresholds.not_below.Given as goal

abbrev pub invariant-loop-peer : goal.invariant-loop-peer
invariant-loop-peer l =
    (L : Entries) → Knows l.known l.now.0 L
    → l.found.items ++ without (λ (q : PeerNo). is_below l.threshold (score (peer_with l.known.setup) L l.now.0 q)) (drop l.peer-index l.peers)
    ≡ without (λ (q : PeerNo). is_below l.threshold (score (peer_with l.known.setup) L l.now.0 q)) l.peers
