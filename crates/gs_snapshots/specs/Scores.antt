-- The scores of a run over time: by peer, by moment, by neighbour.
use Rattle.std.specs.Prelude.{ℕ, Bool, List, ◌++◌, Option, filter}
use Rattle.std.specs.List.{flat_map}
use Rattle.gs_base.specs.declared.names.PeerNo.{PeerNo}
use Rattle.gs_plan.specs.declared.plan.Plan.{Plan}
use Rattle.gs_rules.specs.Peers.{links_of}
use Rattle.gs_rules.specs.Tables.{Entries}
use Rattle.gs_report.specs.declared.finished.Finished.{Finished}
use Rattle.gs_report.specs.declared.report.Report.{Report}
use Rattle.gs_seats.specs.Rounds.{peer_in}
use Rattle.gs_trace.specs.declared.wanted.RoundSpan.{RoundSpan}
use Rattle.gs_snapshots.specs.declared.moments.Moment.{Moment}
use Rattle.gs_snapshots.specs.declared.wanted.Form.{Form}
use Rattle.gs_snapshots.specs.Forms.{head_text, snapshot_text}
use Rattle.gs_snapshots.specs.Moments.{moments}
use Rattle.gs_snapshots.specs.Snapshots.{snapshot_of}
use Rattle.gs_snapshots.specs.Wishes.{Wishes, has_name, is_in_rounds}

-- the text for a neighbour at a moment, after the trace that its peer had then
abbrev pub text_about : Option Form → Plan → Moment × Entries → PeerNo → List ℕ
text_about form plan m q = snapshot_text form plan (snapshot_of (peer_in plan m.0.peer) m q)

-- the text for each of these neighbours at a moment
abbrev pub text_at : Option Form → Plan → List PeerNo → Moment × Entries → List ℕ
text_at form plan qs m = flat_map (text_about form plan m) qs

abbrev pub is_at_wanted_round : Option RoundSpan → Moment × Entries → Bool
is_at_wanted_round rounds m = is_in_rounds rounds m.0.round

-- the neighbours of a peer that are wanted, by number
abbrev pub wanted_neighbours : Wishes → Plan → PeerNo → List PeerNo
wanted_neighbours w plan p = filter (has_name w.neighbour plan) (links_of (peer_in plan p))

-- the text for a peer: at each moment of a wanted round, for each wanted neighbour
abbrev pub text_of_peer : Wishes → Plan → PeerNo × Finished → List ℕ
text_of_peer w plan x = flat_map
    (text_at w.form plan (wanted_neighbours w plan x.0))
    (filter (is_at_wanted_round w.rounds) (moments plan x.0 x.1.trace))

abbrev pub is_wanted_peer : Wishes → Plan → PeerNo × Finished → Bool
is_wanted_peer w plan x = has_name w.peer plan x.0

-- the first line, and then the text for each peer that is wanted
abbrev pub scores_text : Wishes → Plan → Report → List ℕ
scores_text w plan report =
    head_text w.form plan ++ flat_map (text_of_peer w plan) (filter (is_wanted_peer w plan) report.peers.items)
