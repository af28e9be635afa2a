-- Judges of peers, after one of the peers did more, and what is left of the peers at the end of a run.
use Rattle.std.proofs.Common.{◌≡◌, ◌<◌, ◌≤◌, ℕ, Bool, true, false, if◌then◌else◌, nat_eq, List, [], ◌∷◌, ◌++◌, filter, flat_map, get_or, length, map, Option, None, Some, refl, sym, ap, subst, ◌∙◌, arith}
use Rattle.std.specs.Prelude.{slice_set}
use Rattle.std.specs.List.{AllByRecursion, AllZip}
use Rattle.std.proofs.lemmas.Option.{slice_get_read}
use Rattle.gs_base.specs.declared.names.PeerNo.{PeerNo}
use Rattle.gs_plan.specs.declared.plan.Plan.{Plan}
use Rattle.gs_rules.specs.declared.trace.Entry.{Entry}
use Rattle.gs_rules.specs.Tables.{Entries}
use Rattle.gs_report.specs.Seen.{AreLives, added}
use Rattle.gs_report.specs.declared.finished.Finished.{Finished}
use Rattle.gs_report.specs.declared.report.Report.{Report}
use Rattle.gs_reach.specs.declared.chosen.Chosen.{Chosen}
use Rattle.gs_reach.specs.Chosen.{is_chosen}
use Rattle.gs_seats.specs.Rounds.{numbers, peer_no}
use Rattle.gs_opinions.specs.declared.traces.Judge.{Judge}
use Rattle.gs_opinions.specs.Judging.{HasItsJudge, opinions_in}
use Rattle.gs_opinions.specs.Opinions.{is_of, opinions, opinions_by, peer_opinions, trace_opinions}
use Rattle.gs_opinions.specs.Reading.{IsJudgeAfter}
use Rattle.gs_opinions.proofs.Judged.{other_trace}
use Rattle.gs_opinions.proofs.Zipped.{found_at, kept_all, none_at, put_at}

-- a judge says the same of traces where its peer has the same one
stays_judged : (plan : Plan) (of : Chosen) (before after : PeerNo → Entries) (q : PeerNo) (judge : Option Judge) → after q ≡ before q → HasItsJudge plan of before q judge → HasItsJudge plan of after q judge
stays_judged plan of before after q None same h = h
stays_judged plan of before after q (Some judge) same h = (h.0, subst (IsJudgeAfter plan q judge) (sym same) h.1)

-- what stands at a peer's place is its judge
pub judge_at : (plan : Plan) (of : Chosen) (p : PeerNo) (traces : PeerNo → Entries) (judges : List (Option Judge)) → AllZip (HasItsJudge plan of traces) (numbers plan) judges
    → (k : ℕ) → k ≡ p.0 → (judge : Option Judge) → k < length judges → judge ≡ get_or judges k judge → (p.0 < length plan.peers) × HasItsJudge plan of traces p judge
judge_at plan of p traces judges all k at judge low stands =
    let found = found_at (HasItsJudge plan of traces) (length plan.peers) k judges all judge (slice_get_read judges (length judges) k judge refl low stands) in
    (let below = found.0 in omega (arith, below, at), subst (λ (n : ℕ). HasItsJudge plan of traces (peer_no n) judge) at found.1)

module _ (plan : Plan) (of : Chosen) (p : PeerNo) (es : List Entry) (before after : PeerNo → Entries) (is : (q : PeerNo) → after q ≡ added before p es q) (judges : List (Option Judge)) (all : AllZip (HasItsJudge plan of before) (numbers plan) judges) (k : ℕ) (at : k ≡ p.0) where
  others_stay : (m : ℕ) (judge : Option Judge) → nat_eq k m ≡ false → HasItsJudge plan of before (peer_no m) judge → HasItsJudge plan of after (peer_no m) judge
  others_stay m judge differs h =
      stays_judged plan of before after (peer_no m) judge (other_trace plan of p es before after is m (ap (λ (n : ℕ). nat_eq n m) (sym at) ∙ differs)) h

  pub judges_after : (new : Option Judge) → HasItsJudge plan of after p new → AllZip (HasItsJudge plan of after) (numbers plan) (slice_set judges k new)
  judges_after new has =
      put_at (HasItsJudge plan of before) (HasItsJudge plan of after) k others_stay (length plan.peers) judges all new
      (subst (λ (n : ℕ). HasItsJudge plan of after (peer_no n) new) (sym at) has)

  pub no_judge : (k < length judges → false ≡ true) → (length plan.peers ≤ p.0) × AllZip (HasItsJudge plan of after) (numbers plan) judges
  no_judge out =
      let past = none_at (HasItsJudge plan of before) (length plan.peers) k judges all out in
      (omega (arith, past, at), kept_all (HasItsJudge plan of before) (HasItsJudge plan of after) k others_stay 0 (length plan.peers) past judges all)

-- ---- before the run, and at its end

abbrev Life : Type 0
Life = PeerNo × Finished

-- peers that did nothing have no opinions
pub nothing_yet : (plan : Plan) (of : Chosen) → opinions_in plan of (λ p. []) ≡ []
nothing_yet plan of = none (filter (is_chosen of) (numbers plan))
  where
    none : (ps : List PeerNo) → flat_map (λ p. trace_opinions plan p []) ps ≡ []
    none [] = refl
    none (p ∷ ps) = none ps

module _ (plan : Plan) (of : Chosen) (traces : PeerNo → Entries) where
  by_traces : (xs : List Life) → AllByRecursion (λ (x : Life). x.1.trace ≡ traces x.0) xs
      → opinions_by plan of xs ≡ flat_map (λ p. trace_opinions plan p (traces p)) (filter (is_chosen of) (map (λ (x : Life). x.0) xs))
  by_traces [] h = refl
  by_traces (x ∷ xs) h = by (is_chosen of x.0) (by_traces xs h.1)
    where
      by : (b : Bool)
          → opinions_by plan of xs ≡ flat_map (λ p. trace_opinions plan p (traces p)) (filter (is_chosen of) (map (λ (y : Life). y.0) xs))
          → flat_map (peer_opinions plan) (if b then x ∷ filter (is_of of) xs else filter (is_of of) xs)
          ≡ flat_map (λ p. trace_opinions plan p (traces p)) (if b then x.0 ∷ filter (is_chosen of) (map (λ (y : Life). y.0) xs) else filter (is_chosen of) (map (λ (y : Life). y.0) xs))
      by true rest = λ i. trace_opinions plan x.0 (h.0 i) ++ rest i
      by false rest = rest

  pub all_lived : (report : Report) → AreLives (length plan.peers) traces report.peers.items → opinions_in plan of traces ≡ opinions plan report of
  all_lived report lives =
      ap (λ (ps : List PeerNo). flat_map (λ p. trace_opinions plan p (traces p)) (filter (is_chosen of) ps)) (sym lives.numbers)
      ∙ sym (by_traces report.peers.items lives.same)
