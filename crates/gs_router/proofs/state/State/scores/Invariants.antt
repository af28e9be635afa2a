use Rattle.std.proofs.Common.{◌≡◌, ◌++◌, drop, map}
use Rattle.gs_base.specs.Names.{peers_of}
use Rattle.gs_rules.specs.Tables.{Entries}
use Rattle.gs_rules.specs.Scoring.{score}
use Rattle.gs_router.specs.Tables.{AgreesOnScores}
use Rattle.gs_router.specs.Known.{peer_with}
use Rattle.gs_router.proofs.state.State.scores.Given as goal

abbrev pub invariant-loop-neighbour : goal.invariant-loop-neighbour
invariant-loop-neighbour g l =
    (L : Entries) → AgreesOnScores (peer_with l.self.known.setup) l.self.known.tables.standings L
    → l.scores ++ map (λ q. (q, score (peer_with l.self.known.setup) L l.now.0 q)) (peers_of (drop l.neighbour-index l.neighbour-items))
    ≡ map (λ q. (q, score (peer_with l.self.known.setup) L l.now.0 q)) (peers_of l.neighbour-items)
