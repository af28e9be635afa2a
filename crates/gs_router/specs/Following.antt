-- What it means to follow a trace that exists already.
use Rattle.std.specs.Prelude.{◌≡◌, ◌≤◌, ◌<◌, ◌^◌, ℕ, List, [], ◌∷◌, ◌++◌, length, drop, reverse, take, Option, Some, None}
use Rattle.gs_rules.specs.declared.fallen.Fallen.{Fallen}
use Rattle.gs_rules.specs.declared.trace.Entry.{Entry}
use Rattle.gs_rules.specs.Peers.{Peer}
use Rattle.gs_rules.specs.Tables.{Entries, last_moment}
use Rattle.gs_rules.specs.FellAway.{fell_away}
use Rattle.gs_router.specs.declared.follower.Followed.{Followed}
use Rattle.gs_router.specs.declared.follower.Follower.{Follower}
use Rattle.gs_router.specs.Watching.{Watches}

-- no entry is earlier than the one before it
abbrev pub AreInOrder : Entries → Type 0
AreInOrder [] = Unit {0}
AreInOrder (e ∷ L) = (last_moment L ≤ e.at.0) × AreInOrder L

-- the peer of the followed trace, the entries that were seen, the newest first, and those that are left, the oldest first
pub record Reading : Type 0 where
  pub peer : Peer
  pub before : Entries
  pub left : List Entry

-- the watcher has seen the entries before a place of the trace
pub record Follows (f : Follower) (v : Reading) : Type 0 where
  pub watches : Watches f.watcher v.peer v.before
  pub before : v.before ≡ reverse (take f.place (reverse f.trace.now))
  pub left : v.left ≡ drop f.place (reverse f.trace.now)
  pub within : f.place ≤ length f.trace.now
  pub order : AreInOrder f.trace.now

-- the next entry is seen, with what it shows to have been sent or promised in vain
pub record Advances (v : Reading) (seen : Followed) (f : Follower) : Type 0 where
  pub rest : List Entry
  pub next : v.left ≡ seen.entry.now ∷ rest
  pub fallen : seen.fallen.items ≡ fell_away v.peer v.before seen.entry.now.at seen.entry.now.event
  pub follows : Follows f (record { peer = v.peer; before = seen.entry.now ∷ v.before; left = rest })

-- nothing is left, or one more entry is seen
abbrev pub GoesOn : Reading → Option Followed → Follower → Type 0
GoesOn v None f = (v.left ≡ []) × Follows f v
GoesOn v (Some seen) f = Advances v seen f
