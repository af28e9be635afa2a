-- What a watcher knows of the entries that it has seen.
use Rattle.std.proofs.Common.{◌≤◌, ℕ, sym, subst}
use Rattle.gs_rules.specs.Tables.{Entries, last_moment}
use Rattle.gs_rules.specs.Peers.{Peer}
use Rattle.gs_router.specs.declared.watcher.Watcher.{Watcher}
use Rattle.gs_router.specs.Tables.{AgreesOnScores, AreMadeFor}
use Rattle.gs_router.specs.Known.{Knows}
use Rattle.gs_router.specs.Watching.{Watches}

pub known_by_watcher : (w : Watcher) (p : Peer) (L : Entries) (at : ℕ) → Watches w p L → last_moment L ≤ at → Knows w.known at L
known_by_watcher w p L at watches past = record {
  agrees = watches.agrees;
  scores = subst (λ (q : Peer). AgreesOnScores q w.known.tables.standings L) (sym watches.peer) watches.scores;
  made = subst (λ (q : Peer). AreMadeFor w.known.tables q) (sym watches.peer) watches.made;
  time = past;
  explicit = watches.explicit;
}
