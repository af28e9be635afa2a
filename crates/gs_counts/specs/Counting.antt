-- What is counted of a run that goes on.
use Rattle.std.specs.Prelude.{◌≡◌, ℕ, nat_lt, ◌&&◌, if◌then◌else◌, List, [], filter, length, Option, None, Some, IfSome, is_some, slice_get}
use Rattle.std.specs.List.{flat_map}
use Rattle.gs_base.specs.declared.names.PeerNo.{PeerNo}
use Rattle.gs_plan.specs.declared.plan.Plan.{Plan}
use Rattle.gs_rules.specs.Tables.{Entries}
use Rattle.gs_reach.specs.Chosen.{is_chosen}
use Rattle.gs_reach.specs.declared.chosen.Chosen.{Chosen}
use Rattle.gs_report.specs.declared.remains.Remains.{Remains}
use Rattle.gs_seats.specs.Rounds.{numbers}
use Rattle.gs_counts.specs.declared.counting.Counting.{Counting}
use Rattle.gs_counts.specs.declared.happening.Happening.{Happening}
use Rattle.gs_counts.specs.declared.traces.PeerCounter.{PeerCounter}
use Rattle.gs_counts.specs.Changes.{refusal_happenings}
use Rattle.gs_counts.specs.Reading.{IsCounterAfter}
use Rattle.gs_counts.specs.Runs.{trace_happenings, trace_sizes}
use Rattle.gs_counts.specs.Standing.{MeshSize, Shows}

-- ---- counters by number

-- the counter of a peer, if it has one
abbrev pub counter_of : List (Option PeerCounter) → PeerNo → Option PeerCounter
counter_of counters p = elim (slice_get counters p.0) [ None ↦ None | Some counter ↦ counter ]

-- the counter has seen a trace of a peer, if there is a counter
abbrev pub IfCounted : Plan → PeerNo → Entries → Option PeerCounter → Type 0
IfCounted plan p L counter = IfSome counter (λ c. IsCounterAfter plan p c L)

-- this, if there is a counter
abbrev pub if_counted : {A : Type 0} → Option PeerCounter → List A → List A
if_counted counter xs = if is_some counter then xs else []

-- Of this many peers each chosen one has a counter, and no other peer has one. The counters have seen these traces.
pub record AreCounters (count : ℕ) (plan : Plan) (of : Chosen) (counters : List (Option PeerCounter))
    (traces : PeerNo → Entries) : Type 0 where
  pub many : length counters ≡ count
  pub chosen : (p : PeerNo) → is_some (counter_of counters p) ≡ (nat_lt p.0 count && is_chosen of p)
  pub seen : (p : PeerNo) → IfCounted plan p (traces p) (counter_of counters p)

-- ---- what happened so far

-- the chosen peers of a plan
abbrev pub chosen_numbers : Plan → Chosen → List PeerNo
chosen_numbers plan of = filter (is_chosen of) (numbers plan)

-- what happened at the chosen peers, according to these traces
abbrev pub seen_happenings : Plan → Chosen → (PeerNo → Entries) → List Happening
seen_happenings plan of traces = flat_map (λ p. trace_happenings plan p (traces p)) (chosen_numbers plan of)

abbrev pub seen_sizes : Plan → Chosen → (PeerNo → Entries) → List MeshSize
seen_sizes plan of traces = flat_map (λ p. trace_sizes (traces p)) (chosen_numbers plan of)

-- The counts are those of the chosen peers of a plan, as far as these traces go.
pub record HasCounted (plan : Plan) (of : Chosen) (counting : Counting) (traces : PeerNo → Entries) : Type 0 where
  pub counters : AreCounters (length plan.peers) plan of counting.counters.items traces
  pub shows : Shows plan counting.tables (seen_happenings plan of traces) (seen_sizes plan of traces)

-- ---- what a run leaves

-- the lines of the script that a peer refused
abbrev pub left_happenings : PeerNo × Remains → List Happening
left_happenings x = flat_map (refusal_happenings x.0) x.1.refused

-- those that the peers with a counter refused
abbrev pub counted_refusals : List (Option PeerCounter) → List (PeerNo × Remains) → List Happening
counted_refusals counters remains =
    flat_map left_happenings (filter (λ (x : PeerNo × Remains). is_some (counter_of counters x.0)) remains)
