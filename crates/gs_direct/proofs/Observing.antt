-- What an observer has seen after one more peer.
use Rattle.std.proofs.Common.{◌≡◌, ◌≤◌, ◌+◌, ◌*◌, ℕ, zero, suc, Bool, true, false, if◌then◌else◌, List, [], ◌∷◌, ◌++◌, length, map, reverse, inl, inr, arith, refl, sym, ap, ap₂, subst, ◌∙◌}
use Rattle.std.specs.Prelude.{Option, Some, None, option_map, slice_get, unwrap_or, Vec}
use Rattle.std.specs.List.{AllByRecursion, AllZip, range_with_len}
use Rattle.std.specs.declared.alloc.Global.{Global}
use Rattle.std.proofs.lemmas.Bool.{cases_lt, eqb-false, eqb-true, le-ltb, lt-ltb}
use Rattle.std.proofs.lemmas.List.{length-map, reverse-reverse}
use Rattle.std.proofs.lemmas.List.FromFn.{length-map-range_with_len}
use Rattle.std.proofs.lemmas.Option.{same_Some, slice_get-map, slice_get_past}
use Rattle.gs_base.specs.declared.names.Millis.{Millis}
use Rattle.gs_base.specs.declared.names.PeerNo.{PeerNo}
use Rattle.gs_base.specs.Names.{same_peer}
use Rattle.gs_plan.specs.declared.plan.Plan.{Plan}
use Rattle.gs_rules.specs.declared.trace.Entry.{Entry}
use Rattle.gs_rules.specs.Tables.{Entries}
use Rattle.gs_report.specs.declared.finished.Finished.{Finished}
use Rattle.gs_report.specs.declared.report.Report.{Report}
use Rattle.gs_router.specs.Log.{this_round}
use Rattle.gs_router.specs.Router.{RouterView}
use Rattle.gs_params.specs.Seeding.{seeded_after, seeded_word}
use Rattle.gs_rules.specs.Modes.{exact}
use Rattle.gs_router.specs.Following.{AreInOrder}
use Rattle.gs_seats.specs.Reports.{IsReport}
use Rattle.gs_seats.specs.Rounds.{IsRun, first_words, numbers, peer_in, peer_no, trace_of}
use Rattle.gs_seats.proofs.Ordered.{legal_in_order}
use Rattle.gs_seats.proofs.ByNumber.{as_many, at_number}
use Rattle.gs_direct.specs.declared.peer.Peer.{Peer}
use Rattle.gs_report.specs.declared.remains.Remains.{Remains}
use Rattle.gs_direct.specs.Observing.{HasSeen, HasSeenReport, HaveGrown, shown}
use Rattle.gs_report.specs.Seen.{added, remains_of}
use Rattle.gs_direct.specs.Peers.{IsNewPeer, left_of}
use Rattle.gs_direct.specs.Runs.{IsAt, trace_at}
use Rattle.gs_direct.proofs.Turning.{trace_is}

-- before the first peer, only the earlier traces are seen
pub none_shown : (saw : (PeerNo → Entries) → Type 0) (earlier later : PeerNo → Entries) → HasSeen saw earlier → HasSeen saw (shown 0 earlier later)
none_shown saw earlier later h = record {
  seen = h.seen;
  told = h.told;
  same = λ p. h.same p ∙ sym (ap (λ (b : Bool). if b then later p else earlier p) (le-ltb p.0 0 (omega arith)));
}

-- after the last peer, all later ones are
pub all_shown : (saw : (PeerNo → Entries) → Type 0) (n : ℕ) (earlier later : PeerNo → Entries) → HaveGrown earlier later → ((p : PeerNo) → n ≤ p.0 → later p ≡ []) → HasSeen saw (shown n earlier later) → HasSeen saw later
all_shown saw n earlier later grown none h = record {
  seen = h.seen;
  told = h.told;
  same = λ p. h.same p ∙ elim (cases_lt p.0 n) [
    | inl below ↦ ap (λ (b : Bool). if b then later p else earlier p) (lt-ltb p.0 n below)
    | inr above ↦
        ap (λ (b : Bool). if b then later p else earlier p) (le-ltb p.0 n above)
        ∙ sym (grown p ∙ ap (λ (L : Entries). this_round L ++ earlier p) (none p above))
  ];
}

-- what a peer did in the round completes its trace
pub round_whole : (n : ℕ) (earlier later seen : PeerNo → Entries) (entries : List Entry) → HaveGrown earlier later → entries ≡ reverse (this_round (later (peer_no n))) → ((p : PeerNo) → seen p ≡ shown n earlier later p) → reverse entries ++ seen (peer_no n) ≡ later (peer_no n)
round_whole n earlier later seen entries grown are same =
    let p : PeerNo = peer_no n in
    ap₂ (λ (M N : Entries). M ++ N) (ap reverse are ∙ reverse-reverse (this_round (later p))) (same p ∙ ap (λ (b : Bool). if b then later p else earlier p) (le-ltb n n (omega arith)))
    ∙ sym (grown p)

-- one peer more
pub one_shown : (n : ℕ) (earlier later seen : PeerNo → Entries) (entries : List Entry) → HaveGrown earlier later → entries ≡ reverse (this_round (later (peer_no n))) → ((p : PeerNo) → seen p ≡ shown n earlier later p) → (p : PeerNo) → shown (n + 1) earlier later p ≡ added seen (peer_no n) entries p
one_shown n earlier later seen entries grown are same p = by (same_peer (peer_no n) p) refl
  where
    by : (mine : Bool) → same_peer (peer_no n) p ≡ mine → shown (n + 1) earlier later p ≡ (if mine then reverse entries ++ seen p else seen p)
    by true mine =
        let is : n ≡ p.0 = eqb-true n p.0 mine in
        let whole : reverse entries ≡ this_round (later p) =
        ap reverse are ∙ reverse-reverse (this_round (later (peer_no n))) ∙ ap (λ (k : ℕ). this_round (later (peer_no k))) is in
        ap (λ (b : Bool). if b then later p else earlier p) (lt-ltb p.0 (n + 1) (omega (arith, is)))
        ∙ grown p
        ∙ ap₂ (λ (M N : Entries). M ++ N) (sym whole) (sym (same p ∙ ap (λ (b : Bool). if b then later p else earlier p) (le-ltb p.0 n (omega (arith, is)))))
    by false other = elim (cases_lt p.0 n) [
      | inl below ↦
          ap (λ (b : Bool). if b then later p else earlier p) (lt-ltb p.0 (n + 1) (omega (arith, below)) ∙ sym (lt-ltb p.0 n below)) ∙ sym (same p)
      | inr above ↦
          ap (λ (b : Bool). if b then later p else earlier p) (le-ltb p.0 (n + 1) (beyond above) ∙ sym (le-ltb p.0 n above)) ∙ sym (same p)
    ]
      where
        beyond : n ≤ p.0 → n + 1 ≤ p.0
        beyond above = elim (cases_lt n p.0) [
          | inl less ↦ omega (arith, less)
          | inr least ↦ absurd (eqb-false n p.0 other (omega (arith, above, least)))
        ]

-- what holds of each holds of one
pub one_of : {A : Type 0} (P : A → Type 0) (xs : List A) (n : ℕ) (x : A) → slice_get xs n ≡ Some x → AllByRecursion P xs → P x
one_of P [] n x at each = absurd cc
one_of P (y ∷ xs) zero x at each = subst P (same_Some y x at) each.0
one_of P (y ∷ xs) (suc n) x at each = one_of P xs n x at each.1

-- ---- the order of entries

-- after rounds, all traces are in order
pub rounds_order : {T : Type 0} → (plan : Plan) (r : ℕ) (all : List (Peer T)) (ps : List PeerNo) (peers : List (Peer T)) → AllZip (IsAt plan r all) ps peers → AllByRecursion (λ (peer : Peer T). AreInOrder peer.router.trace) peers
rounds_order plan r all [] [] each = tt
rounds_order plan r all [] (x ∷ peers) each = absurd each
rounds_order plan r all (p ∷ ps) [] each = absurd each
rounds_order plan r all (p ∷ ps) (x ∷ peers) each =
    (legal_in_order (exact seeded_word seeded_after) (peer_in plan p) (first_words plan p) x.router.trace x.words each.0.legal, rounds_order plan r all ps peers each.1)

-- ---- the traces of lives

-- nobody has a trace past the last peer
pub none_past : {T : Type 0} → (peers : List (Peer T)) (p : PeerNo) → length peers ≤ p.0 → trace_at peers p ≡ []
none_past {T} peers p above = ap (λ (found : Option (Peer T)). unwrap_or (option_map (λ (x : Peer T). x.router.trace) found) []) (slice_get_past peers p.0 above)

-- the trace of a life is that of its peer
pub lives_traces : {T : Type 0} → (now : Millis) (peers : List (Peer T)) (p : PeerNo) → trace_at peers p ≡ trace_of (map (left_of now) peers) p
lives_traces {T} now peers p =
    by (slice_get peers p.0) ∙ sym (ap (λ (found : Option Finished). unwrap_or (option_map (λ (life : Finished). life.trace) found) []) (slice_get-map (left_of now) peers p.0))
  where
    by : (found : Option (Peer T)) → unwrap_or (option_map (λ (x : Peer T). x.router.trace) found) [] ≡ unwrap_or (option_map (λ (life : Finished). life.trace) (option_map (left_of now) found)) []
    by None = refl
    by (Some x) = refl

-- peers that have done nothing have no entries
pub new_traces : {T : Type 0} → (plan : Plan) (peers : List (Peer T)) → AllZip (IsNewPeer plan) (numbers plan) peers → (p : PeerNo) → trace_at peers p ≡ []
new_traces {T} plan peers all p = elim (cases_lt p.0 (length plan.peers)) [
  | inl below ↦
      let (x, here, new) = at_number (IsNewPeer plan) plan p peers below all in
      trace_is peers p x here ∙ ap (λ (v : RouterView). v.trace) new.router
  | inr above ↦ none_past peers p (omega (arith, above, as_many (IsNewPeer plan) plan peers all))
]

-- ---- the report

abbrev first_number : PeerNo → List PeerNo → PeerNo
first_number other [] = other
first_number other (p ∷ ps) = p

abbrev later_numbers : List PeerNo → List PeerNo
later_numbers [] = []
later_numbers (p ∷ ps) = ps

-- Lives that stand from a place on have the traces that are there.
lives_from : (all : List Finished) (a : ℕ) (lives : List (PeerNo × Finished)) → map (λ (x : PeerNo × Finished). x.0) lives ≡ map peer_no (range_with_len a (length lives)) → ((k : ℕ) → slice_get (map (λ (x : PeerNo × Finished). x.1) lives) k ≡ slice_get all (a + k)) → AllByRecursion (λ (x : PeerNo × Finished). x.1.trace ≡ trace_of all x.0) lives
lives_from all a [] numbers stand = tt
lives_from all a (x ∷ xs) numbers stand =
    let trace_in : Option Finished → Entries = λ found. unwrap_or (option_map (λ (life : Finished). life.trace) found) [] in
    let number : x.0 ≡ peer_no a = ap (first_number x.0) numbers in
    let found : Some x.1 ≡ slice_get all a = stand 0 ∙ ap (slice_get all) (omega arith) in (
      ap trace_in found ∙ ap (trace_of all) (sym number),
      lives_from all (a + 1) xs (ap later_numbers numbers) (λ k. stand (suc k) ∙ ap (slice_get all) (omega arith)),
    )

-- What a run leaves, with what was seen of it, is a report. What holds of the lives holds of those in the report.
pub seen_report : (saw : (PeerNo → Entries) → Type 0) (holds : List Finished → Type 0) (plan : Plan) (remains : Vec (PeerNo × Remains) Global) (lives : List (PeerNo × Finished)) → map (λ (x : PeerNo × Finished). x.0) lives ≡ numbers plan → IsRun plan (map (λ (x : PeerNo × Finished). x.1) lives) → HasSeen saw (trace_of (map (λ (x : PeerNo × Finished). x.1) lives)) → remains.items ≡ map (λ (x : PeerNo × Finished). (x.0, remains_of x.1)) lives → holds (map (λ (x : PeerNo × Finished). x.1) lives) → (report : Report) × IsReport plan report × HasSeenReport saw plan report × (remains.items ≡ map (λ (x : PeerNo × Finished). (x.0, remains_of x.1)) report.peers.items) × holds (map (λ (x : PeerNo × Finished). x.1) report.peers.items)
seen_report saw holds plan remains lives by_number run seen are held = (
  record { peers = peers; settled = 2 * length plan.dials },
  record { numbers_are = by_number; run = run; settled = refl },
  record {
    traces = seen.seen;
    told = seen.told;
    lives = record {
      numbers = by_number;
      same = all_same lives (lives_from all 0 lives (by_number ∙ ap (λ (n : ℕ). map peer_no (range_with_len 0 n)) (sym many)) (λ k. ap (slice_get all) (omega arith)));
    };
  },
  are,
  held,
)
  where
    all : List Finished
    all = map (λ (x : PeerNo × Finished). x.1) lives

    many : length lives ≡ length plan.peers
    many =
        sym (length-map lives (λ (x : PeerNo × Finished). x.0)) ∙ ap length by_number ∙ length-map-range_with_len peer_no 0 (length plan.peers)

    peers : Vec (PeerNo × Finished) Global
    peers = record {
      ptr = remains.ptr;
      len = remains.len;
      cap = remains.cap;
      alloc = remains.alloc;
      items = lives;
      ok = (remains.ok.0 ∙ ap length are ∙ length-map lives (λ (x : PeerNo × Finished). (x.0, remains_of x.1)), remains.ok.1);
      small = remains.small;
    }

    all_same : (xs : List (PeerNo × Finished)) → AllByRecursion (λ (x : PeerNo × Finished). x.1.trace ≡ trace_of all x.0) xs → AllByRecursion (λ (x : PeerNo × Finished). x.1.trace ≡ seen.seen x.0) xs
    all_same [] h = tt
    all_same (x ∷ xs) h = (h.0 ∙ sym (seen.same x.0), all_same xs h.1)
