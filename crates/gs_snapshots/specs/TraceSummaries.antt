-- The summaries of a peer's neighbours, from the peer's trace.
use Rattle.std.specs.Prelude.{ℕ, ◌/◌, if◌then◌else◌, List, [], ◌∷◌, filter, map, reverse, Option}
use Rattle.std.specs.List.{flat_map}
use Rattle.gs_base.specs.declared.names.PeerNo.{PeerNo}
use Rattle.gs_plan.specs.declared.plan.Plan.{Plan}
use Rattle.gs_rules.specs.declared.fallen.Fallen.{Fallen}
use Rattle.gs_rules.specs.FellAway.{fell_away}
use Rattle.gs_rules.specs.Tables.{Entries}
use Rattle.gs_seats.specs.Rounds.{peer_in}
use Rattle.gs_trace.specs.declared.wanted.RoundSpan.{RoundSpan}
use Rattle.gs_snapshots.specs.declared.moments.Moment.{Moment}
use Rattle.gs_snapshots.specs.declared.snapshot.Snapshot.{Snapshot}
use Rattle.gs_snapshots.specs.declared.summary.Summary.{Summary}
use Rattle.gs_snapshots.specs.Moments.{moments, traces_so_far}
use Rattle.gs_snapshots.specs.Scores.{is_at_wanted_round}
use Rattle.gs_snapshots.specs.Snapshots.{snapshot_of}
use Rattle.gs_snapshots.specs.Summary.{summary_of}
use Rattle.gs_snapshots.specs.Wishes.{is_in_rounds}

abbrev pub snapshot_at : Plan → PeerNo → PeerNo → Moment × Entries → Snapshot
snapshot_at plan p q m = snapshot_of (peer_in plan p) m q

-- the snapshots of a neighbour at the moments of wanted rounds, the oldest first
abbrev pub snapshots_of : Option RoundSpan → Plan → PeerNo → Entries → PeerNo → List Snapshot
snapshots_of rounds plan p L q =
    map (snapshot_at plan p q) (filter (is_at_wanted_round rounds) (moments plan p L))

-- what had no effect at the newest entry of a trace, if its round is wanted
abbrev pub newest_fallen : Option RoundSpan → Plan → PeerNo → Entries → List Fallen
newest_fallen rounds plan p [] = []
newest_fallen rounds plan p (e ∷ L) =
    if is_in_rounds rounds (e.at.0 / plan.round_ms) then fell_away (peer_in plan p) L e.at e.event else []

-- what had no effect at each entry, the oldest first
abbrev pub all_fallen : Option RoundSpan → Plan → PeerNo → Entries → List Fallen
all_fallen rounds plan p L = flat_map (newest_fallen rounds plan p) (reverse (traces_so_far L))

abbrev pub summary_in : Option RoundSpan → Plan → PeerNo → Entries → PeerNo → Summary
summary_in rounds plan p L q =
    summary_of plan.params.thresholds q (snapshots_of rounds plan p L q) (all_fallen rounds plan p L)
