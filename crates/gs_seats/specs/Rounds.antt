-- The peers of a plan, and what a run of them leaves.
use Rattle.std.specs.Prelude.{◌≡◌, ℕ, ℤ, pos, ◌*◌, Bool, ◌&&◌, List, [], length, map, filter, option_map, unwrap_or, slice_get}
use Rattle.std.specs.List.{enumerate_from, find, list_any, range_with_len, AllZip, AllByRecursion}
use Rattle.gs_base.specs.declared.names.PeerNo.{PeerNo}
use Rattle.gs_base.specs.declared.neighbour.Neighbour.{Neighbour}
use Rattle.gs_base.specs.Names.{same_peer}
use Rattle.gs_plan.specs.declared.plan.App.{App}
use Rattle.gs_plan.specs.declared.plan.Dial.{Dial}
use Rattle.gs_plan.specs.declared.plan.Explicit.{Explicit}
use Rattle.gs_plan.specs.declared.plan.Line.{Line}
use Rattle.gs_plan.specs.declared.plan.Plan.{Plan}
use Rattle.gs_plan.specs.declared.plan.PlannedPeer.{PlannedPeer}
use Rattle.gs_plan.specs.Plans.{are_joined}
use Rattle.gs_params.specs.Seeding.{SeededState, new_seeded, seeded_after, seeded_word}
use Rattle.gs_wire.specs.Codec.{codec}
use Rattle.gs_wire.specs.Joining.{joined_rpcs}
use Rattle.gs_rules.specs.Peers.{Peer, seen_ttl}
use Rattle.gs_rules.specs.Tables.{Entries}
use Rattle.gs_rules.specs.Modes.{exact}
use Rattle.gs_rules.specs.Legal.{Legal, LegalOn, DeliversApart}
use Rattle.gs_rules.specs.Saying.{Said, bytes_of, out, handled, sent}
use Rattle.gs_rules.specs.Hearing.{Spell}
use Rattle.gs_rules.specs.Rounds.{Seat, KeepsRounds, PutsNoBytes}
use Rattle.gs_rules.specs.Results.{meshes_of, scores_of}
use Rattle.gs_report.specs.declared.finished.Finished.{Finished}

-- ---- the peers

abbrev pub peer_no : ℕ → PeerNo
peer_no n = record { 0 = n }

-- the numbers of the peers, which are their indices in the plan
abbrev pub numbers : Plan → List PeerNo
numbers plan = map peer_no (range_with_len 0 (length plan.peers))

-- the neighbours of a peer, ascending
abbrev pub neighbours : Plan → PeerNo → List PeerNo
neighbours plan p = filter (are_joined plan.dials p) (numbers plan)

-- the address of a peer, by which its neighbours count it (P6); it is empty where no peer has the number
abbrev pub address_of : Plan → PeerNo → List ℕ
address_of plan p = unwrap_or (option_map (λ (planned : PlannedPeer). planned.address) (slice_get plan.peers p.0)) []

-- the random words that the plan lists for the peer
abbrev pub listed_words : Plan → PeerNo → List ℕ
listed_words plan p = unwrap_or (option_map (λ (planned : PlannedPeer). planned.words) (slice_get plan.peers p.0)) []

-- for how many milliseconds the peer had been up when round 0 began
abbrev pub phase_of : Plan → PeerNo → ℕ
phase_of plan p = unwrap_or (option_map (λ (planned : PlannedPeer). planned.phase_ms) (slice_get plan.peers p.0)) 0

-- the random words of a peer before it has used any
abbrev pub first_words : Plan → PeerNo → SeededState
first_words plan p = new_seeded (listed_words plan p) plan.seed p

abbrev pub is_dial : PeerNo → PeerNo → Dial → Bool
is_dial p q dial = same_peer dial.from p && same_peer dial.to q

-- says whether a score is one that p's application gives q; the first such score of the plan counts, or 0 where there is none
abbrev pub is_about : PeerNo → PeerNo → App → Bool
is_about p q app = same_peer app.peer p && same_peer app.about q

abbrev pub app_of : Plan → PeerNo → PeerNo → ℤ
app_of plan p q = unwrap_or (option_map (λ (app : App). app.value) (find (is_about p q) plan.apps)) (pos 0)

-- says whether an agreement is p's with q; this says nothing about an agreement of q with p
abbrev pub is_agreed : PeerNo → PeerNo → Explicit → Bool
is_agreed p q agreement = same_peer agreement.peer p && same_peer agreement.about q

-- q as a neighbour of p
abbrev pub neighbour_in : Plan → PeerNo → PeerNo → Neighbour
neighbour_in plan p q = record {
  peer = q;
  outbound = list_any (is_dial p q) plan.dials;
  address = address_of plan q;
  app = app_of plan p q;
  explicit = list_any (is_agreed p q) plan.explicit;
}

abbrev pub neighbours_in : Plan → PeerNo → List Neighbour
neighbours_in plan p = map (neighbour_in plan p) (neighbours plan p)

-- a peer of the plan, as a reader of its trace needs it
abbrev pub peer_in : Plan → PeerNo → Peer
peer_in plan p = record { params = plan.params; neighbours = neighbours_in plan p }

-- ---- what a peer does

-- says whether this peer follows the line
abbrev pub is_for : PeerNo → ℕ × Line → Bool
is_for p x = same_peer x.1.peer p

-- its lines of the script with their indices there, in file order
abbrev pub lines_in : Plan → PeerNo → List (ℕ × Line)
lines_in plan p = filter (is_for p) (enumerate_from 0 plan.script)

-- what a peer is given in a run
abbrev pub seat_in : Plan → PeerNo → Seat
seat_in plan p = record {
  number = p;
  peer = peer_in plan p;
  lines = lines_in plan p;
  round_ms = plan.round_ms;
  rounds = plan.rounds;
  phase_ms = phase_of plan p;
}

-- ---- a run

-- the trace of a peer; it is empty where no peer has the number
abbrev pub trace_of : List Finished → PeerNo → Entries
trace_of lives p = unwrap_or (option_map (λ (life : Finished). life.trace) (slice_get lives p.0)) []

-- what the trace of q says to p
abbrev pub said_to : List Finished → PeerNo → PeerNo → Said
said_to lives p q = out codec (trace_of lives q) p

-- What holds for one peer of a run.
pub record IsLifeInRun (plan : Plan) (lives : List Finished) (p : PeerNo) (life : Finished) : Type 0 where
  -- each step is allowed by those before it
  pub legal : Legal (peer_in plan p) life.trace
  -- its choices are those of its random words
  pub chosen : (last : SeededState)
      × LegalOn (exact seeded_word seeded_after) (peer_in plan p) (first_words plan p) [] life.trace last
  -- it did everything that it had to do, round by round
  pub keeps : KeepsRounds (seat_in plan p) (said_to lives p) life.trace life.refused
  -- the meshes of its topics when it shut down, which nothing after that changes
  pub meshes : life.meshes ≡ meshes_of life.trace
  -- the scores of its neighbours when it shut down, which nothing after that changes
  pub scores : life.scores ≡ scores_of (peer_in plan p) life.trace (plan.rounds * plan.round_ms)
  -- The RPCs of a neighbour that it handled are those that the neighbour's bytes to it spell. They end at the first bytes
  -- that spell no RPC.
  pub exchanged : AllByRecursion (λ q. Spell (bytes_of (said_to lives p q)) (handled life.trace q)) (neighbours plan p)
  -- They are also what the neighbour sent to it, where no line of the neighbour's script puts raw bytes on their link. Both
  -- are joined list by list: whole, once, in order. A refused line that would put raw bytes there counts as one that does.
  pub handled_is_sent : AllByRecursion (λ q.
      PutsNoBytes p (seat_in plan q).lines
      → joined_rpcs (handled life.trace q) ≡ joined_rpcs (sent (trace_of lives q) p)) (neighbours plan p)
  -- Two entries that deliver the same identifier, on any topics, are at least `seen_ttl` apart.
  pub apart : DeliversApart (seen_ttl (peer_in plan p)) life.trace

-- what a run leaves of all peers of a plan, by their numbers
abbrev pub IsRun : Plan → List Finished → Type 0
IsRun plan lives = AllZip (IsLifeInRun plan lives) (numbers plan) lives
