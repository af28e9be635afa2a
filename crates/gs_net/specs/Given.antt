-- What the peers' tasks give, and what the links between them carried.
use Rattle.std.specs.Prelude.{◌≡◌, ℕ, List, [], option_map, unwrap_or, slice_get}
use Rattle.gs_base.specs.declared.names.PeerNo.{PeerNo}
use Rattle.gs_plan.specs.declared.plan.Dial.{Dial}
use Rattle.gs_plan.specs.declared.plan.Plan.{Plan}
use Rattle.gs_ends.specs.Pairs.{Pair, accepted_for, pair_ends, taken_from}
use Rattle.gs_peer.specs.declared.finished_task.FinishedTask.{FinishedTask as GivenWith}
use Rattle.gs_peer.specs.Life.{IsLife}
use Rattle.gs_report.specs.declared.finished.Finished.{Finished}
use Rattle.gs_seats.specs.Rounds.{first_words, seat_in}

-- ---- one peer

-- what a peer's task gives: what remains of its run, with the ends of its links
abbrev pub Given : Type 0
Given = GivenWith (List Pair)

-- it describes a whole run of this peer of the plan, with the peer's random words
abbrev pub GivenLife : Plan → PeerNo → Given → Type 0
GivenLife plan p f = IsLife pair_ends (seat_in plan p) (first_words plan p) f

-- what remains of the run, without the ends
abbrev pub bare : Given → Finished
bare f = record { trace = f.trace; refused = f.refused; meshes = f.meshes; scores = f.scores }

-- ---- all peers

-- the ends that the task at a place gave, or none where there is no such task
abbrev pub ends_at : List Given → ℕ → List Pair
ends_at givens n = unwrap_or (option_map (λ (f : Given). f.ends) (slice_get givens n)) []

-- what the end of `from` accepted for `to` is what the end of `to` took from `from`
abbrev pub Reaches : List Given → PeerNo → PeerNo → Type 0
Reaches givens from to = accepted_for (ends_at givens from.0) to ≡ taken_from (ends_at givens to.0) from

-- what each peer of a dial accepted for the other has reached the other
abbrev pub Exchanged : List Given → Dial → Type 0
Exchanged givens dial = Reaches givens dial.from dial.to × Reaches givens dial.to dial.from
