-- What a run leaves, as the tables of what was counted show it.
use Rattle.std.proofs.Common.{◌≡◌, ◌<◌, ◌≤◌, ◌+◌, ℕ, zero, suc, nat_lt, Bool, true, false, if◌then◌else◌, List, [], ◌∷◌, ◌++◌, filter, get_or, length, map, take, Option, refl, sym, ap, ap₂, subst, ◌∙◌, append-nil, append_assoc, arith}
use Rattle.std.specs.Prelude.{◌&&◌, is_some}
use Rattle.std.specs.List.{AllByRecursion, flat_map, range_with_len}
use Rattle.std.proofs.lemmas.Bool.Decides.{nat_tests}
use Rattle.std.proofs.lemmas.Grind.{flat_map-append}
use Rattle.std.proofs.lemmas.List.{take_more}
use Rattle.std.proofs.lemmas.List.Elements.{filter-append}
use Rattle.gs_base.specs.declared.names.PeerNo.{PeerNo}
use Rattle.gs_plan.specs.declared.plan.Plan.{Plan}
use Rattle.gs_rules.specs.Tables.{Entries}
use Rattle.gs_reach.specs.Chosen.{is_chosen}
use Rattle.gs_reach.specs.declared.chosen.Chosen.{Chosen}
use Rattle.gs_report.specs.Seen.{AreLives, remains_of}
use Rattle.gs_report.specs.declared.finished.Finished.{Finished}
use Rattle.gs_report.specs.declared.remains.Remains.{Remains}
use Rattle.gs_seats.specs.Rounds.{peer_no}
use Rattle.gs_counts.specs.declared.happening.Happening.{Happening}
use Rattle.gs_counts.specs.declared.tables.Tables.{Tables}
use Rattle.gs_counts.specs.declared.traces.PeerCounter.{PeerCounter}
use Rattle.gs_counts.specs.Changes.{refusal_happenings}
use Rattle.gs_counts.specs.Counting.{AreCounters, counted_refusals, counter_of, left_happenings, seen_happenings, seen_sizes}
use Rattle.gs_counts.specs.Runs.{chosen_peers, happenings, mesh_sizes, trace_happenings, trace_sizes}
use Rattle.gs_counts.specs.Standing.{MeshSize, Shows}
use Rattle.gs_counts.proofs.Moving.{side_by_side}
use Rattle.gs_counts.proofs.Shown.{shown_turned}

-- ---- numbers

all_below : (a n most : ℕ) → a + n ≤ most → AllByRecursion (λ (p : PeerNo). p.0 < most) (map peer_no (range_with_len a n))
all_below a zero most fits = tt
all_below a (suc n) most fits = (omega (arith, fits), all_below (a + 1) n most (omega (arith, fits)))

of_pairs : (P : PeerNo → Type 0) (peers : List (PeerNo × Finished)) → AllByRecursion P (map (λ (x : PeerNo × Finished). x.0) peers) → AllByRecursion (λ (x : PeerNo × Finished). P x.0) peers
of_pairs P [] all = tt
of_pairs P (x ∷ peers) all = (all.0, of_pairs P peers all.1)

-- ---- the chosen peers

module _ (of : Chosen) (traces : PeerNo → Entries) {B : Type 0} (f : PeerNo → Entries → List B) where
  abbrev of_numbers : List PeerNo → List B
  of_numbers ps = flat_map (λ p. f p (traces p)) (filter (is_chosen of) ps)

  abbrev of_lives : List (PeerNo × Finished) → List B
  of_lives peers = flat_map (λ (x : PeerNo × Finished). f x.0 x.1.trace) (chosen_peers of peers)

  one_life : (x : PeerNo × Finished) (peers : List (PeerNo × Finished)) → x.1.trace ≡ traces x.0 → of_numbers (map (λ (y : PeerNo × Finished). y.0) peers) ≡ of_lives peers → (b : Bool)
      → flat_map (λ p. f p (traces p)) (if b then x.0 ∷ filter (is_chosen of) (map (λ (y : PeerNo × Finished). y.0) peers) else filter (is_chosen of) (map (λ (y : PeerNo × Finished). y.0) peers))
      ≡ flat_map (λ (y : PeerNo × Finished). f y.0 y.1.trace) (if b then x ∷ chosen_peers of peers else chosen_peers of peers)
  one_life x peers is rest true = ap₂ (λ (xs ys : List B). xs ++ ys) (ap (f x.0) (sym is)) rest
  one_life x peers is rest false = rest

  by_lives : (peers : List (PeerNo × Finished)) → AllByRecursion (λ (x : PeerNo × Finished). x.1.trace ≡ traces x.0) peers → of_numbers (map (λ (x : PeerNo × Finished). x.0) peers) ≡ of_lives peers
  by_lives [] same = refl
  by_lives (x ∷ peers) same = one_life x peers same.0 (by_lives peers same.1) (is_chosen of x.0)

-- ---- refused lines

abbrev refused_by : PeerNo × Finished → List Happening
refused_by x = flat_map (refusal_happenings x.0) x.1.refused

abbrev as_left : PeerNo × Finished → PeerNo × Remains
as_left x = (x.0, remains_of x.1)

module _ (plan : Plan) (of : Chosen) (traces : PeerNo → Entries) (counters : List (Option PeerCounter)) (are : AreCounters (length plan.peers) plan of counters traces) where
  one_left : (x : PeerNo × Finished) (peers : List (PeerNo × Finished)) → counted_refusals counters (map as_left peers) ≡ flat_map refused_by (chosen_peers of peers) → (b : Bool)
      → flat_map left_happenings (if b then as_left x ∷ filter (λ (y : PeerNo × Remains). is_some (counter_of counters y.0)) (map as_left peers) else filter (λ (y : PeerNo × Remains). is_some (counter_of counters y.0)) (map as_left peers))
      ≡ flat_map refused_by (if b then x ∷ chosen_peers of peers else chosen_peers of peers)
  one_left x peers rest true = ap (λ (xs : List Happening). refused_by x ++ xs) rest
  one_left x peers rest false = rest

  counter_is_chosen : (p : PeerNo) → p.0 < length plan.peers → is_some (counter_of counters p) ≡ is_chosen of p
  counter_is_chosen p low =
      let below : nat_lt p.0 (length plan.peers) ≡ true = grind (arith, nat_tests) in
      are.chosen p ∙ ap (λ (b : Bool). b && is_chosen of p) below

  all_left : (peers : List (PeerNo × Finished)) → AllByRecursion (λ (x : PeerNo × Finished). x.0.0 < length plan.peers) peers → counted_refusals counters (map as_left peers) ≡ flat_map refused_by (chosen_peers of peers)
  all_left [] below = refl
  all_left (x ∷ peers) below =
      ap (λ (b : Bool). flat_map left_happenings (if b then as_left x ∷ filter (λ (y : PeerNo × Remains). is_some (counter_of counters y.0)) (map as_left peers) else filter (λ (y : PeerNo × Remains). is_some (counter_of counters y.0)) (map as_left peers))) (counter_is_chosen x.0 below.0)
      ∙ one_left x peers (all_left peers below.1) (is_chosen of x.0)

  pub left_shown : (peers : List (PeerNo × Finished)) (remains : List (PeerNo × Remains)) (tables : Tables)
      → AreLives (length plan.peers) traces peers
      → map (λ x. (x.0, remains_of x.1)) peers ≡ remains
      → Shows plan tables (seen_happenings plan of traces ++ counted_refusals counters remains) (seen_sizes plan of traces)
      → Shows plan tables (happenings plan (chosen_peers of peers)) (mesh_sizes (chosen_peers of peers))
  left_shown peers remains tables lives is shows =
      let below = of_pairs (λ (p : PeerNo). p.0 < length plan.peers) peers (subst (AllByRecursion (λ (p : PeerNo). p.0 < length plan.peers)) (sym lives.numbers) (all_below 0 (length plan.peers) (length plan.peers) (omega arith))) in
      let traced : seen_happenings plan of traces ≡ flat_map (λ (x : PeerNo × Finished). trace_happenings plan x.0 x.1.trace) (chosen_peers of peers) =
      ap (of_numbers of traces (trace_happenings plan)) (sym lives.numbers) ∙ by_lives of traces (trace_happenings plan) peers lives.same in
      let sized : seen_sizes plan of traces ≡ mesh_sizes (chosen_peers of peers) =
      ap (of_numbers of traces (λ (p : PeerNo) (L : Entries). trace_sizes L)) (sym lives.numbers) ∙ by_lives of traces (λ (p : PeerNo) (L : Entries). trace_sizes L) peers lives.same in
      let refused : counted_refusals counters remains ≡ flat_map refused_by (chosen_peers of peers) =
      ap (counted_refusals counters) (sym is) ∙ all_left peers below in
      let apart = subst (λ (xs : List Happening). Shows plan tables xs (mesh_sizes (chosen_peers of peers))) (ap₂ (λ (xs ys : List Happening). xs ++ ys) traced refused)
      (subst (λ (xs : List MeshSize). Shows plan tables (seen_happenings plan of traces ++ counted_refusals counters remains) xs) sized shows) in
      side_by_side (λ hs. Shows plan tables hs (mesh_sizes (chosen_peers of peers))) (shown_turned plan tables (mesh_sizes (chosen_peers of peers)))
      (λ (x : PeerNo × Finished). trace_happenings plan x.0 x.1.trace) refused_by [] (chosen_peers of peers) apart

-- ---- peer by peer

abbrev has_counter : List (Option PeerCounter) → PeerNo × Remains → Bool
has_counter counters y = is_some (counter_of counters y.0)

pub one_refused : (counters : List (Option PeerCounter)) (x : PeerNo × Remains) → is_some (counter_of counters x.0) ≡ true → left_happenings x ≡ counted_refusals counters (x ∷ [])
one_refused counters x is =
    sym (append-nil (left_happenings x))
    ∙ ap (λ (b : Bool). flat_map left_happenings (if b then x ∷ [] else [])) (sym is)

pub refusals_more : (counters : List (Option PeerCounter)) (hs : List Happening) (xs : List (PeerNo × Remains)) (i : ℕ) (x : PeerNo × Remains) → i < length xs → x ≡ get_or xs i x → (hs ++ counted_refusals counters (take i xs)) ++ counted_refusals counters (x ∷ []) ≡ hs ++ counted_refusals counters (take (i + 1) xs)
refusals_more counters hs xs i x below is =
    append_assoc hs (counted_refusals counters (take i xs)) (counted_refusals counters (x ∷ []))
    ∙ ap (λ (ys : List Happening). hs ++ ys)
    (sym (flat_map-append left_happenings (filter (has_counter counters) (take i xs)) (filter (has_counter counters) (x ∷ [])))
    ∙ ap (flat_map left_happenings) (sym (filter-append (has_counter counters) (take i xs) (x ∷ [])))
    ∙ ap (counted_refusals counters) (ap (λ (y : PeerNo × Remains). take i xs ++ y ∷ []) is ∙ sym (take_more xs i x below)))
