-- All that happened in a run, as one list, and the tables of it.
use Rattle.std.specs.Prelude.{ℕ, ◌+◌, List, [], ◌∷◌, ◌++◌, filter, map}
use Rattle.std.specs.List.{flat_map, range_with_len}
use Rattle.gs_base.specs.declared.names.Millis.{Millis}
use Rattle.gs_base.specs.declared.names.PeerNo.{PeerNo}
use Rattle.gs_base.specs.declared.names.Topic.{Topic}
use Rattle.gs_base.specs.declared.mark.Mark.{Mark}
use Rattle.gs_base.specs.declared.rpc.Message.{Message}
use Rattle.gs_plan.specs.declared.plan.Plan.{Plan}
use Rattle.gs_rules.specs.declared.event.Event.{Event}
use Rattle.gs_rules.specs.declared.fallen.Fallen.{Fallen}
use Rattle.gs_rules.specs.declared.trace.Entry.{Entry}
use Rattle.gs_rules.specs.Events.{of_round_end}
use Rattle.gs_rules.specs.FellAway.{fell_away}
use Rattle.gs_rules.specs.Tables.{Entries, ascending}
use Rattle.gs_report.specs.declared.finished.Finished.{Finished}
use Rattle.gs_reach.specs.Chosen.{is_chosen}
use Rattle.gs_reach.specs.declared.chosen.Chosen.{Chosen}
use Rattle.gs_report.specs.declared.report.Report.{Report}
use Rattle.gs_seats.specs.Rounds.{neighbours, numbers, peer_in}
use Rattle.gs_counts.specs.declared.fate.Fate.{Fate}
use Rattle.gs_counts.specs.declared.happening.Happening.{Happening}
use Rattle.gs_counts.specs.declared.happening.Scene.{Scene}
use Rattle.gs_counts.specs.declared.memory.Memory.{Memory}
use Rattle.gs_counts.specs.declared.run.LinkCounts.{LinkCounts}
use Rattle.gs_counts.specs.declared.run.PeerCounts.{PeerCounts}
use Rattle.gs_counts.specs.declared.run.RoundCounts.{RoundCounts}
use Rattle.gs_counts.specs.declared.run.RunCounts.{RunCounts}
use Rattle.gs_counts.specs.declared.run.TopicCounts.{TopicCounts}
use Rattle.gs_counts.specs.Changes.{delivery_happenings, mark_happenings, refusal_happenings}
use Rattle.gs_counts.specs.Fates.{fate_after}
use Rattle.gs_counts.specs.Happenings.{of_peer}
use Rattle.gs_counts.specs.Heard.{event_happenings, fallen_happenings}
use Rattle.gs_counts.specs.Lanes.{links_happenings}
use Rattle.gs_counts.specs.Meshes.{members, members_in}
use Rattle.gs_counts.specs.Rows.{row_of, row_where}
use Rattle.gs_counts.specs.Sent.{is_answer, send_happenings}
use Rattle.gs_counts.specs.Standing.{MeshSize, goes_over, is_at, is_in, is_on, link_of, span_in, topics_in}
use Rattle.gs_counts.specs.Topics.{subscribed}

-- ---- an entry

-- What an entry counts as, except what goes out over links. `fallen` is what came to nothing at it, and `fate` says what
-- becomes of a message.
abbrev pub done_happenings : (Message → List Mark → Fate) → Scene → List Fallen → Entry → List Happening
done_happenings fate s fallen e =
    flat_map (fallen_happenings s) fallen
    ++ (event_happenings fate s fallen e.event e.effects.marks
    ++ (flat_map (send_happenings s (is_answer e.event)) e.effects.sends
    ++ (flat_map (delivery_happenings s) e.effects.delivered ++ flat_map (mark_happenings s e.event) e.effects.marks)))

-- what happens at an entry of a peer, after a trace
abbrev pub entry_happenings : Plan → PeerNo → Entries → Entry → List Happening
entry_happenings plan p L e =
    done_happenings (fate_after L) (of_peer e.at p) (fell_away (peer_in plan p) L e.at e.event) e
    ++ links_happenings (neighbours plan p) (of_peer e.at p) L e

-- ---- a run

-- what happens in a trace of a peer, the oldest entry first
abbrev pub trace_happenings : Plan → PeerNo → Entries → List Happening
trace_happenings plan p [] = []
trace_happenings plan p (e ∷ L) = trace_happenings plan p L ++ entry_happenings plan p L e

-- what happens at a peer: in its trace, and the lines of the script that it refuses
abbrev pub peer_happenings : Plan → PeerNo × Finished → List Happening
peer_happenings plan x = trace_happenings plan x.0 x.1.trace ++ flat_map (refusal_happenings x.0) x.1.refused

-- all that happened at these peers, peer by peer
abbrev pub happenings : Plan → List (PeerNo × Finished) → List Happening
happenings plan peers = flat_map (peer_happenings plan) peers

-- ---- meshes

-- how many of these members the mesh of each of these topics has, at a moment
abbrev pub sizes_of : Millis → List (Topic × PeerNo) → List Topic → List MeshSize
sizes_of at ms topics = map (λ t. (at, members_in ms t)) topics

-- the sizes of meshes by what is known after an entry
abbrev pub known_sizes : Memory → Millis → Event → List MeshSize
known_sizes memory at event =
    of_round_end (λ r. sizes_of at memory.meshes.members.items memory.meshes.topics.items) [] event

-- the sizes of the meshes of each topic that a peer is subscribed to, if the entry ends a round
abbrev pub entry_sizes : Entries → Entry → List MeshSize
entry_sizes L e = of_round_end (λ r. sizes_of e.at (members (e ∷ L)) (subscribed (e ∷ L))) [] e.event

abbrev pub trace_sizes : Entries → List MeshSize
trace_sizes [] = []
trace_sizes (e ∷ L) = trace_sizes L ++ entry_sizes L e

abbrev pub mesh_sizes : List (PeerNo × Finished) → List MeshSize
mesh_sizes peers = flat_map (λ (x : PeerNo × Finished). trace_sizes x.1.trace) peers

-- ---- tables

-- the row of a peer
abbrev pub peer_counts : List Happening → PeerNo → PeerCounts
peer_counts hs p = record { peer = p; counts = row_where (is_at p) hs }

-- the row of the link from one peer to another, and the rows of all links from one
abbrev pub link_counts : List Happening → PeerNo → PeerNo → LinkCounts
link_counts hs p q = record { from = p; to = q; counts = row_where (λ h. goes_over p q (link_of h)) hs }

abbrev pub links_of : Plan → List Happening → PeerNo → List LinkCounts
links_of plan hs p = map (link_counts hs p) (neighbours plan p)

-- the row of a topic
abbrev pub topic_counts : List Happening → Topic → TopicCounts
topic_counts hs t = record { topic = t; counts = row_where (λ h. is_on t h.topic) hs }

-- the row of a round
abbrev pub round_counts : ℕ → List Happening → List MeshSize → ℕ → RoundCounts
round_counts round_ms hs sizes r = record {
  round = r;
  counts = row_where (is_in round_ms r) hs;
  members = span_in round_ms r sizes;
}

-- the tables of these happenings and sizes of meshes
abbrev pub counts_of : Plan → List Happening → List MeshSize → RunCounts
counts_of plan hs sizes = record {
  peers = map (peer_counts hs) (numbers plan);
  links = flat_map (links_of plan hs) (numbers plan);
  topics = map (topic_counts hs) (ascending (topics_in hs));
  rounds = map (round_counts plan.round_ms hs sizes) (range_with_len 0 (plan.rounds + 1));
  all = row_of hs;
}

-- the peers that are chosen
abbrev pub chosen_peers : Chosen → List (PeerNo × Finished) → List (PeerNo × Finished)
chosen_peers of peers = filter (λ (x : PeerNo × Finished). is_chosen of x.0) peers

-- the tables of what the traces of these peers say
abbrev pub peers_counts : Plan → List (PeerNo × Finished) → RunCounts
peers_counts plan peers = counts_of plan (happenings plan peers) (mesh_sizes peers)

-- the tables of the chosen peers of a run
abbrev pub run_counts : Plan → Report → Chosen → RunCounts
run_counts plan report of = peers_counts plan (chosen_peers of report.peers.items)
