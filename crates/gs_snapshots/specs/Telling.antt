-- The text about a peer's scores, entry by entry of its trace.
use Rattle.std.specs.Prelude.{ℕ, if◌then◌else◌, List, [], filter}
use Rattle.std.specs.List.{flat_map}
use Rattle.gs_base.specs.declared.names.PeerNo.{PeerNo}
use Rattle.gs_plan.specs.declared.plan.Plan.{Plan}
use Rattle.gs_report.specs.declared.finished.Finished.{Finished}
use Rattle.gs_rules.specs.declared.trace.Entry.{Entry}
use Rattle.gs_rules.specs.Tables.{Entries}
use Rattle.gs_router.specs.declared.follower.Follower.{Follower}
use Rattle.gs_router.specs.Following.{Follows}
use Rattle.gs_seats.specs.Rounds.{peer_in}
use Rattle.gs_snapshots.specs.declared.scores.Asked.{Asked}
use Rattle.gs_snapshots.specs.declared.moments.Moment.{Moment}
use Rattle.gs_snapshots.specs.Moments.{moments, newest_moment}
use Rattle.gs_snapshots.specs.Scores.{is_at_wanted_round, is_wanted_peer, text_at, text_of_peer}
use Rattle.gs_snapshots.specs.Wishes.{Wishes}

-- a reader of a peer's trace has seen the entries L, the newest first, and has still to see those in left
abbrev pub FollowsPeer : Follower → Plan → PeerNo → Entries → List Entry → Type 0
FollowsPeer follower plan p L left = Follows follower (record { peer = peer_in plan p; before = L; left = left })

-- the text about the scores that a peer gives, if the peer is wanted
abbrev pub text_if : Wishes → Plan → PeerNo × Finished → List ℕ
text_if w plan x = if is_wanted_peer w plan x then text_of_peer w plan x else []

-- the text at a moment after a trace, for the neighbours and in the form that are asked for
abbrev pub told_of : Asked → Moment × Entries → List ℕ
told_of asked m = text_at asked.form asked.plan.now asked.neighbours.items m

-- the text at those of these moments whose round is wanted
abbrev pub told_of_each : Asked → List (Moment × Entries) → List ℕ
told_of_each asked ms = flat_map (told_of asked) (filter (is_at_wanted_round asked.rounds) ms)

-- the text at the newest of these entries, and at all of them
abbrev pub told_newest : Asked → Entries → List ℕ
told_newest asked L = told_of_each asked (newest_moment asked.plan.now asked.peer L)

abbrev pub told_at : Asked → Entries → List ℕ
told_at asked L = told_of_each asked (moments asked.plan.now asked.peer L)
