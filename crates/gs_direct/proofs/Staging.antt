-- What a gauge has shown after one more round.
use Rattle.std.proofs.Common.{◌≡◌, ◌≤◌, ◌<◌, ◌+◌, ◌-◌, ◌^◌, ℕ, suc, min, List, [], ◌∷◌, ◌++◌, length, map, reverse, inl, inr, arith, refl, sym, ap, ap₂, subst, subst₂, ◌∙◌, append_assoc}
use Rattle.std.specs.Prelude.{Result, Ok, Err, OnErr, Some, slice_get, sum_by}
use Rattle.std.specs.List.{AllZip, range_with_len}
use Rattle.std.proofs.Math.Nat.{min-eq_left, min-eq_right, zero-min}
use Rattle.std.proofs.lemmas.Bool.{cases_lt}
use Rattle.std.proofs.lemmas.List.{append-nil}
use Rattle.std.proofs.lemmas.List.FromFn.{sum_by-map-range_with_len_more}
use Rattle.std.proofs.lemmas.List.Sorted.{IsPermutation-reverse, sum_by-IsPermutation}
use Rattle.std.proofs.lemmas.List.Sums.{sum_by-append, sum_by-cons}
use Rattle.gs_base.specs.declared.names.PeerNo.{PeerNo}
use Rattle.gs_plan.specs.declared.plan.Plan.{Plan}
use Rattle.gs_report.specs.Seen.{numbers_below}
use Rattle.gs_router.specs.Log.{this_round}
use Rattle.gs_rules.proofs.RoundEnds.{has_ended}
use Rattle.gs_params.specs.Seeding.{seeded_after, seeded_word}
use Rattle.gs_rules.specs.Legal.{LegalOn}
use Rattle.gs_rules.specs.Modes.{exact}
use Rattle.gs_rules.specs.Rounds.{AfterRounds}
use Rattle.gs_rules.specs.Tables.{Entries}
use Rattle.gs_rules.specs.declared.trace.Entry.{Entry}
use Rattle.gs_seats.proofs.ByNumber.{as_many, at_number}
use Rattle.gs_seats.proofs.EachPeer.{range_more, zip_more}
use Rattle.gs_seats.specs.Rounds.{first_words, numbers, peer_in, peer_no, seat_in}
use Rattle.gs_direct.proofs.Observing.{none_past}
use Rattle.gs_direct.proofs.Turning.{trace_is}
use Rattle.gs_direct.specs.Observing.{HaveGrown}
use Rattle.gs_direct.specs.Runs.{AreAt, IsAt, said_so_far, trace_at}
use Rattle.gs_direct.specs.Stages.{AreFirstStages, AreStages, AreTracesAfter, HasShownFirst, HasShownMore, IsRoundEnd, IsStage, delivered_in, delivered_to, saturated}
use Rattle.gs_direct.specs.declared.peer.Peer.{Peer}
use Rattle.gs_direct.specs.declared.stages.Stage.{Stage}

-- ---- what was shown

pub shows_none : {T S : Type 0} → (has_shown : T → S → List Stage → Type 0) (gauge : T) → HasShownMore has_shown gauge gauge []
shows_none has_shown gauge start before h = subst (has_shown gauge start) (sym (append-nil before)) h

pub shows_more : {T S : Type 0} → (has_shown : T → S → List Stage → Type 0) (a b c : T) (stages : List Stage) (stage : Stage) → HasShownMore has_shown a b stages → HasShownMore has_shown b c (stage ∷ []) → HasShownMore has_shown a c (stages ++ stage ∷ [])
shows_more has_shown a b c stages stage first next start before h =
    subst (has_shown c start) (append_assoc before stages (stage ∷ [])) (next start (before ++ stages) (first start before h))

-- what holds however a call ends holds after an error
pub on_err : {A E : Type 0} → (r : Result A E) (P : Type 0) → P → OnErr r P
on_err (Ok x) P h = tt
on_err (Err e) P h = h

-- ---- counts

-- a count of a count and more
pub saturated_once : (a b : ℕ) → saturated (saturated a + b) ≡ saturated (a + b)
saturated_once a b = elim (cases_lt a (2 ^ 64 - 1)) [
  | inl below ↦ ap (λ (n : ℕ). saturated (n + b)) (min-eq_left (omega (arith, below)))
  | inr above ↦ min-eq_right (omega (arith, min-eq_right above)) ∙ sym (min-eq_right (omega (arith, above)))
]

pub saturated_both : (a b : ℕ) → saturated (saturated a + saturated b) ≡ saturated (a + b)
saturated_both a b =
    saturated_once a (saturated b)
    ∙ ap saturated (omega arith)
    ∙ saturated_once b a
    ∙ ap saturated (omega arith)

-- ---- deliveries

-- a sum of sums
sum_apart : (f g h : PeerNo → ℕ) → ((p : PeerNo) → f p ≡ g p + h p) → (ps : List PeerNo) → sum_by f ps ≡ sum_by g ps + sum_by h ps
sum_apart f g h apart [] = refl
sum_apart f g h apart (p ∷ ps) =
    sum_by-cons f p ps
    ∙ omega (arith, apart p, sum_apart f g h apart ps, sum_by-cons g p ps, sum_by-cons h p ps)

-- what was delivered by now was delivered before this round or in it
pub delivered_since : (count : ℕ) (earlier later : PeerNo → Entries) → HaveGrown earlier later → delivered_to count later ≡ delivered_to count earlier + delivered_to count (λ p. this_round (later p))
delivered_since count earlier later grown =
    sum_apart (λ p. delivered_in (later p)) (λ p. delivered_in (earlier p)) (λ p. delivered_in (this_round (later p)))
    (λ p. ap delivered_in (grown p) ∙ sum_by-append (λ (e : Entry). length e.effects.delivered) (this_round (later p)) (earlier p) ∙ omega arith)
    (numbers_below count)

pub saturated_since : (count : ℕ) (earlier later : PeerNo → Entries) (before now : ℕ) → HaveGrown earlier later → before ≡ saturated (delivered_to count earlier) → now ≡ saturated (before + delivered_to count (λ p. this_round (later p))) → now ≡ saturated (delivered_to count later)
saturated_since count earlier later before now grown was is =
    is
    ∙ ap (λ (n : ℕ). saturated (n + delivered_to count (λ p. this_round (later p)))) was
    ∙ saturated_once (delivered_to count earlier) (delivered_to count (λ p. this_round (later p)))
    ∙ ap saturated (sym (delivered_since count earlier later grown))

sum_of_none : (f : PeerNo → ℕ) → ((p : PeerNo) → f p ≡ 0) → (ps : List PeerNo) → sum_by f ps ≡ 0
sum_of_none f none [] = refl
sum_of_none f none (p ∷ ps) = sum_by-cons f p ps ∙ omega (arith, none p, sum_of_none f none ps)

-- peers that have played no round have no entries
none_before : {T : Type 0} → (plan : Plan) (peers : List (Peer T)) → AllZip (IsAt plan 0 peers) (numbers plan) peers → (p : PeerNo) → trace_at peers p ≡ []
none_before plan peers each p = elim (cases_lt p.0 (length plan.peers)) [
  | inl below ↦
      let (peer, here, at) = at_number (IsAt plan 0 peers) plan p peers below each in
      trace_is peers p peer here ∙ at.played.0
  | inr above ↦ none_past peers p (omega (arith, above, as_many (IsAt plan 0 peers) plan peers each))
]

-- so nothing is delivered to them
pub count_begins : {T : Type 0} → (plan : Plan) (peers : List (Peer T)) → AllZip (IsAt plan 0 peers) (numbers plan) peers → 0 ≡ saturated (delivered_to (length plan.peers) (trace_at peers))
count_begins plan peers each =
    sym (ap saturated (sum_of_none (λ p. delivered_in (trace_at peers p)) (λ p. ap delivered_in (none_before plan peers each p)) (numbers_below (length plan.peers))) ∙ zero-min (2 ^ 64 - 1))

-- one peer more
pub delivered_to_more : (n : ℕ) (traces : PeerNo → Entries) → delivered_to (n + 1) traces ≡ delivered_to n traces + delivered_in (traces (peer_no n))
delivered_to_more n traces = sum_by-map-range_with_len_more (λ p. delivered_in (traces p)) peer_no 0 n n (omega arith)

pub delivered_in_reverse : (L : Entries) → delivered_in (reverse L) ≡ delivered_in L
delivered_in_reverse L = sum_by-IsPermutation (λ (e : Entry). length e.effects.delivered) L (reverse L) (IsPermutation-reverse L)

-- ---- stages

-- a stage of traces is one of longer traces
stage_later : (plan : Plan) (earlier later : PeerNo → Entries) → ((p : PeerNo) → (more : Entries) × (later p ≡ more ++ earlier p)) → (r : ℕ) (stage : Stage) → IsStage plan earlier r stage → IsStage plan later r stage
stage_later plan earlier later longer r stage is = record {
  earlier = is.earlier;
  older = λ p.
      let (more, of_later) = longer p in
      let (rest, of_earlier) = is.older p in
      (more ++ rest, of_later ∙ ap (λ (L : Entries). more ++ L) of_earlier ∙ sym (append_assoc more rest (is.earlier p)));
  ended = is.ended;
  round_is = is.round_is;
  count_is = is.count_is;
}

each_stage : (P Q : ℕ → Stage → Type 0) → ((r : ℕ) (stage : Stage) → P r stage → Q r stage) → (rs : List ℕ) (stages : List Stage) → AllZip P rs stages → AllZip Q rs stages
each_stage P Q so [] [] h = tt
each_stage P Q so (r ∷ rs) (s ∷ stages) h = (so r s h.0, each_stage P Q so rs stages h.1)
each_stage P Q so [] (s ∷ stages) h = absurd h
each_stage P Q so (r ∷ rs) [] h = absurd h

pub stages_later : (plan : Plan) (earlier later : PeerNo → Entries) → ((p : PeerNo) → (more : Entries) × (later p ≡ more ++ earlier p)) → (n : ℕ) (stages : List Stage) → AreStages plan earlier n stages → AreStages plan later n stages
stages_later plan earlier later longer n stages are =
    each_stage (IsStage plan earlier) (IsStage plan later) (stage_later plan earlier later longer) (range_with_len 0 n) stages are

pub stages_grow : (plan : Plan) (earlier later : PeerNo → Entries) → HaveGrown earlier later → (n : ℕ) (stages : List Stage) → AreStages plan earlier n stages → AreStages plan later n stages
stages_grow plan earlier later grown = stages_later plan earlier later (λ p. (this_round (later p), grown p))

pub stages_same : (plan : Plan) (these those : PeerNo → Entries) → ((p : PeerNo) → those p ≡ these p) → (n : ℕ) (stages : List Stage) → AreStages plan these n stages → AreStages plan those n stages
stages_same plan these those same = stages_later plan these those (λ p. ([], same p))

-- the stage after one more round
pub one_stage : {T : Type 0} → (plan : Plan) (r : ℕ) (peers : List (Peer T)) (stage : Stage) → AllZip (IsAt plan (suc r) peers) (numbers plan) peers → stage.round ≡ r → stage.deliveries ≡ saturated (delivered_to (length plan.peers) (trace_at peers)) → IsStage plan (trace_at peers) r stage
one_stage {T} plan r peers stage each round_is count_is = record {
  earlier = trace_at peers;
  older = λ p. ([], refl);
  ended = λ p below.
      let (peer, here, at) = at_number (IsAt plan (suc r) peers) plan p peers below each in
      ends p peer here at;
  round_is = round_is;
  count_is = count_is;
}
  where
    ends : (p : PeerNo) (peer : Peer T) → slice_get peers p.0 ≡ Some peer → IsAt plan (suc r) peers p peer → IsRoundEnd r (trace_at peers p)
    ends p peer here at =
        let (K, earlier, more, before, plays, is) = at.played in
        let ended = has_ended (seat_in plan p) (said_so_far peers p) r K peer.router.trace earlier more before plays in
        record { end = ended.end; before = ended.before; are = trace_is peers p peer here ∙ ended.are; is_end = ended.is_end }

-- ---- traces

-- peers that have played rounds have these traces
pub so_far : {T : Type 0} → (plan : Plan) (r : ℕ) (peers : List (Peer T)) → AllZip (IsAt plan r peers) (numbers plan) peers → AreTracesAfter plan r (trace_at peers)
so_far plan r peers each p below =
    let (peer, here, at) = at_number (IsAt plan r peers) plan p peers below each in
    let is : peer.router.trace ≡ trace_at peers p = sym (trace_is peers p peer here) in
    record {
      chosen = (
        peer.words,
        subst (λ (L : Entries). LegalOn (exact seeded_word seeded_after) (peer_in plan p) (first_words plan p) [] L peer.words) is at.legal,
      );
      refused = peer.refused.items;
      played = subst (λ (L : Entries). AfterRounds (seat_in plan p) (said_so_far peers p) r L peer.refused.items) is at.played;
    }

-- so what was shown of them is of the first rounds of a run
pub first_stages : {T : Type 0} → (plan : Plan) (r : ℕ) (peers : List (Peer T)) (stages : List Stage) → r ≤ suc plan.rounds → AllZip (IsAt plan r peers) (numbers plan) peers → AreStages plan (trace_at peers) r stages → AreFirstStages plan stages
first_stages plan r peers stages within each are = record {
  rounds = r;
  within = within;
  traces = trace_at peers;
  so_far = so_far plan r peers each;
  are = are;
}

-- before its first round a run has shown nothing
pub first_none : {T S : Type 0} → (has_shown : T → S → List Stage → Type 0) (gauge : T) (plan : Plan) → HasShownFirst has_shown gauge gauge plan
first_none has_shown gauge plan = record {
  stages = [];
  shows = shows_none has_shown gauge;
  first = record {
    rounds = 0;
    within = omega arith;
    traces = λ p. [];
    so_far = λ p below. record { chosen = (first_words plan p, refl); refused = []; played = (refl, refl) };
    are = tt;
  };
}

pub stages_more : (plan : Plan) (traces : PeerNo → Entries) (n : ℕ) (stages : List Stage) (stage : Stage) → AreStages plan traces n stages → IsStage plan traces n stage → AreStages plan traces (suc n) (stages ++ stage ∷ [])
stages_more plan traces n stages stage are is =
    subst (λ (ns : List ℕ). AllZip (IsStage plan traces) ns (stages ++ stage ∷ [])) (sym (range_more 0 n))
    (zip_more (IsStage plan traces) (range_with_len 0 n) stages (0 + n) stage are (subst (λ (k : ℕ). IsStage plan traces k stage) (sym (omega arith)) is))
