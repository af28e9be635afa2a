-- What a watcher knows about the entries of a peer that it has seen.
use Rattle.std.specs.Prelude.{◌≡◌, ◌<◌, ◌^◌, length}
use Rattle.gs_rules.specs.Peers.{Peer}
use Rattle.gs_rules.specs.Tables.{Entries}
use Rattle.gs_router.specs.declared.watcher.Watcher.{Watcher}
use Rattle.gs_router.specs.Tables.{Agrees, AgreesOnScores, AreMadeFor}
use Rattle.gs_router.specs.Known.{ListsExplicit, peer_with}

-- the tables say what these entries of this peer say
pub record Watches (w : Watcher) (p : Peer) (L : Entries) : Type 0 where
  pub peer : peer_with w.known.setup ≡ p
  pub counted : w.count ≡ length L
  pub agrees : Agrees w.known.tables L
  pub scores : AgreesOnScores p w.known.tables.standings L
  pub made : AreMadeFor w.known.tables p
  pub explicit : ListsExplicit w.known.setup
