-- What is told of a run has the trace of each peer.
use Rattle.std.proofs.Common.{◌≡◌, ℕ, zero, suc, ◌+◌, ◌<◌, ◌≤◌, ◌^◌, true, false, cond, eqb, List, [], ◌∷◌, ◌++◌, length, map, filter, flat_map, reverse, refl, sym, ap, ◌∙◌, subst, append_assoc, append-nil, arith, eq-eqb, ne_eqb}
use Rattle.std.specs.List.{AllByRecursion, range_with_len}
use Rattle.std.proofs.lemmas.List.{map-append, reverse-reverse}
use Rattle.std.proofs.lemmas.List.Concat.{flat_map-append}
use Rattle.gs_base.specs.declared.names.PeerNo.{PeerNo}
use Rattle.gs_plan.specs.declared.plan.Plan.{Plan}
use Rattle.gs_rules.specs.declared.refusal.RefusedLine.{RefusedLine}
use Rattle.gs_rules.specs.declared.trace.Entry.{Entry}
use Rattle.gs_rules.specs.Peers.{Peer}
use Rattle.gs_rules.specs.Tables.{Entries}
use Rattle.gs_seats.specs.Rounds.{numbers, peer_in, peer_no}
use Rattle.gs_report.specs.declared.finished.Finished.{Finished}
use Rattle.gs_report.specs.declared.report.Report.{Report}
use Rattle.gs_trace.specs.Lines.{Seen, Told, Did, Refused, did, in_round, is_refused_in, seen, seen_by, told, told_in, told_of}
use Rattle.gs_trace.specs.Stored.{IsStored, IsStoredEntry, IsStoredLife, IsStoredNumber, IsStoredPeer, IsStoredRefusal}
use Rattle.gs_trace.specs.Traces.{traced, traces}
use Rattle.gs_trace.proofs.FallenStored.{IsStoredSeen, seen_stored}
use Rattle.gs_trace.proofs.LineTexts.{IsStoredTold}
use Rattle.gs_trace.proofs.Rounds.{all_append, all_filter, all_flat, all_in_round, all_reverse, rounds_are_all}

-- ---- all that is told is stored

done_stored : (r : ℕ) (q : PeerNo) (xs : List Seen) → IsStoredNumber r → IsStoredPeer q → AllByRecursion IsStoredSeen xs → AllByRecursion IsStoredTold (map (did r q) xs)
done_stored r q [] hr hq h = tt
done_stored r q (x ∷ xs) hr hq h = ((hr, hq, h.0.0, h.0.1), done_stored r q xs hr hq h.1)

refused_stored : (r : ℕ) (q : PeerNo) (ls : List RefusedLine) → IsStoredNumber r → IsStoredPeer q → AllByRecursion IsStoredRefusal ls → AllByRecursion IsStoredTold (map (Refused r q) ls)
refused_stored r q [] hr hq h = tt
refused_stored r q (x ∷ ls) hr hq h = ((hr, hq, h.0), refused_stored r q ls hr hq h.1)

life_stored : (plan : Plan) (r : ℕ) (x : PeerNo × Finished) → IsStoredNumber r → IsStoredLife x → AllByRecursion IsStoredTold (told_of plan r x)
life_stored plan r x hr h =
    let xs = in_round plan.rounds r (seen_by plan x) in
    let ls = filter (is_refused_in plan.round_ms r) x.1.refused in
    all_append IsStoredTold (map (did r x.0) xs) (map (Refused r x.0) ls)
    (done_stored r x.0 xs hr h.number
    (all_in_round IsStoredSeen plan.rounds r (seen_by plan x) (seen_stored (peer_in plan x.0) [] (reverse x.1.trace) tt (all_reverse IsStoredEntry x.1.trace h.trace))))
    (refused_stored r x.0 ls hr h.number (all_filter IsStoredRefusal (is_refused_in plan.round_ms r) x.1.refused h.refused))

rounds_stored : (a n : ℕ) → a + n ≤ 2 ^ 64 → AllByRecursion IsStoredNumber (range_with_len a n)
rounds_stored a zero h = tt
rounds_stored a (suc n) h = (omega arith, rounds_stored (a + 1) n (omega arith))

pub told_stored : (plan : Plan) (report : Report) → IsStored plan report → AllByRecursion IsStoredTold (told plan report)
told_stored plan report h =
    let last : plan.rounds < 2 ^ 64 = h.rounds in
    all_flat IsStoredNumber IsStoredTold (told_in plan report) (range_with_len 0 (suc plan.rounds))
    (λ r hr. all_flat IsStoredLife IsStoredTold (told_of plan r) report.peers.items (λ x hx. life_stored plan r x hr hx) h.lives)
    (rounds_stored 0 (suc plan.rounds) (omega arith))

-- ---- the entries of one peer

abbrev kept : PeerNo → Told → List Entry
kept q (Did r p x fallen) = cond (eqb p.0 q.0) (x ∷ []) []
kept q (Refused r p line) = []

-- the entries of a peer, of all that is told
abbrev pub entries_in : PeerNo → List Told → List Entry
entries_in q xs = flat_map (kept q) xs

both_in : (q : PeerNo) (xs ys : List Told) → entries_in q (xs ++ ys) ≡ entries_in q xs ++ entries_in q ys
both_in q xs ys = flat_map-append (kept q) xs ys

all_in : {A : Type 0} (q : PeerNo) (f : A → List Told) (xs : List A) → entries_in q (flat_map f xs) ≡ flat_map (λ x. entries_in q (f x)) xs
all_in q f [] = refl
all_in q f (x ∷ xs) = both_in q (f x) (flat_map f xs) ∙ ap (λ (l : List Entry). entries_in q (f x) ++ l) (all_in q f xs)

-- the entries of what was seen
abbrev entries : List Seen → List Entry
entries xs = map (λ (x : Seen). x.0) xs

seen_entries : (p : Peer) (L : Entries) (es : List Entry) → entries (seen p L es) ≡ es
seen_entries p L [] = refl
seen_entries p L (e ∷ es) = ap (λ (l : List Entry). e ∷ l) (seen_entries p (e ∷ L) es)

all_entries : {A : Type 0} (f : A → List Seen) (xs : List A) → flat_map (λ x. entries (f x)) xs ≡ entries (flat_map f xs)
all_entries f [] = refl
all_entries f (x ∷ xs) = ap (λ (l : List Entry). entries (f x) ++ l) (all_entries f xs) ∙ sym (map-append (λ (y : Seen). y.0) (f x) (flat_map f xs))

own_done : (r : ℕ) (q p : PeerNo) (xs : List Seen) → eqb p.0 q.0 ≡ true → entries_in q (map (did r p) xs) ≡ entries xs
own_done r q p [] h = refl
own_done r q p (x ∷ xs) h = rw h (ap (λ (l : List Entry). x.0 ∷ l) (own_done r q p xs h))

other_done : (r : ℕ) (q p : PeerNo) (xs : List Seen) → eqb p.0 q.0 ≡ false → entries_in q (map (did r p) xs) ≡ []
other_done r q p [] h = refl
other_done r q p (x ∷ xs) h = rw h (other_done r q p xs h)

none_refused : (r : ℕ) (q p : PeerNo) (ls : List RefusedLine) → entries_in q (map (Refused r p) ls) ≡ []
none_refused r q p [] = refl
none_refused r q p (x ∷ ls) = none_refused r q p ls

-- it has another number
abbrev pub IsOther : PeerNo → PeerNo × Finished → Type 0
IsOther q x = eqb x.0.0 q.0 ≡ false

module _ (plan : Plan) (q : PeerNo) where
  own_told : (r : ℕ) (x : PeerNo × Finished) → eqb x.0.0 q.0 ≡ true → entries_in q (told_of plan r x) ≡ entries (in_round plan.rounds r (seen_by plan x))
  own_told r x h =
      let es = in_round plan.rounds r (seen_by plan x) in
      let ls = filter (is_refused_in plan.round_ms r) x.1.refused in
      let done = own_done r q x.0 es h in
      let none = none_refused r q x.0 ls in
      both_in q (map (did r x.0) es) (map (Refused r x.0) ls) ∙ (λ i. done i ++ none i) ∙ append-nil (entries es)

  other_told : (r : ℕ) (x : PeerNo × Finished) → eqb x.0.0 q.0 ≡ false → entries_in q (told_of plan r x) ≡ []
  other_told r x h =
      let es = in_round plan.rounds r (seen_by plan x) in
      let ls = filter (is_refused_in plan.round_ms r) x.1.refused in
      let done = other_done r q x.0 es h in
      let none = none_refused r q x.0 ls in
      both_in q (map (did r x.0) es) (map (Refused r x.0) ls) ∙ (λ i. done i ++ none i)

  others_told : (r : ℕ) (xs : List (PeerNo × Finished)) → AllByRecursion (IsOther q) xs → entries_in q (flat_map (told_of plan r) xs) ≡ []
  others_told r [] h = refl
  others_told r (x ∷ xs) h =
      let one = other_told r x h.0 in
      let more = others_told r xs h.1 in
      both_in q (told_of plan r x) (flat_map (told_of plan r) xs) ∙ (λ i. one i ++ more i)

  -- of a round
  peer_told : (r : ℕ) (before later : List (PeerNo × Finished)) (x : PeerNo × Finished) → AllByRecursion (IsOther q) before → AllByRecursion (IsOther q) later → eqb x.0.0 q.0 ≡ true
      → entries_in q (flat_map (told_of plan r) (before ++ x ∷ later)) ≡ entries (in_round plan.rounds r (seen_by plan x))
  peer_told r before later x hb hl h =
      let none = others_told r before hb in
      let one = own_told r x h in
      let last = others_told r later hl in
      ap (entries_in q) (flat_map-append (told_of plan r) before (x ∷ later))
      ∙ both_in q (flat_map (told_of plan r) before) (told_of plan r x ++ flat_map (told_of plan r) later)
      ∙ (λ i. none i ++ both_in q (told_of plan r x) (flat_map (told_of plan r) later) i)
      ∙ (λ i. one i ++ last i) ∙ append-nil (entries (in_round plan.rounds r (seen_by plan x)))

  -- of all rounds
  trace_told : (report : Report) (before later : List (PeerNo × Finished)) (x : PeerNo × Finished) → report.peers.items ≡ before ++ x ∷ later → AllByRecursion (IsOther q) before → AllByRecursion (IsOther q) later → eqb x.0.0 q.0 ≡ true
      → reverse (entries_in q (told plan report)) ≡ x.1.trace
  trace_told report before later x cut hb hl h =
      let each : (r : ℕ) → entries_in q (told_in plan report r) ≡ entries (in_round plan.rounds r (seen_by plan x)) =
      λ r. ap (λ (l : List (PeerNo × Finished)). entries_in q (flat_map (told_of plan r) l)) cut ∙ peer_told r before later x hb hl h in
      let rounds = range_with_len 0 (suc plan.rounds) in
      ap reverse (all_in q (told_in plan report) rounds ∙ (λ i. flat_map (λ r. each r i) rounds)
      ∙ all_entries (λ r. in_round plan.rounds r (seen_by plan x)) rounds
      ∙ ap entries (rounds_are_all plan.rounds (seen_by plan x))
      ∙ seen_entries (peer_in plan x.0) [] (reverse x.1.trace))
      ∙ reverse-reverse x.1.trace

-- ---- the traces of all peers

abbrev pub IsBelow : ℕ → PeerNo × Finished → Type 0
IsBelow a x = x.0.0 < a

abbrev pub number : PeerNo × Finished → PeerNo
number x = x.0

pub below_more : (a : ℕ) (xs : List (PeerNo × Finished)) → AllByRecursion (IsBelow a) xs → AllByRecursion (IsBelow (a + 1)) xs
below_more a [] h = tt
below_more a (x ∷ xs) h = (let l = h.0 in omega arith, below_more a xs h.1)

pub below_other : (q : PeerNo) (xs : List (PeerNo × Finished)) → AllByRecursion (IsBelow q.0) xs → AllByRecursion (IsOther q) xs
below_other q [] h = tt
below_other q (x ∷ xs) h =
    let lt : x.0.0 < q.0 = h.0 in
    (ne_eqb x.0.0 q.0 (λ e. omega arith), below_other q xs h.1)

pub above_other : (q : PeerNo) (xs : List (PeerNo × Finished)) (a n : ℕ) → q.0 < a → map number xs ≡ map peer_no (range_with_len a n) → AllByRecursion (IsOther q) xs
above_other q [] a n lt e = tt
above_other q (x ∷ xs) a zero lt e = absurd cc
above_other q (x ∷ xs) a (suc n) lt e =
    let first : x.0 ≡ peer_no a = cc in
    let is : x.0.0 ≡ a = ap (λ (p : PeerNo). p.0) first in
    let rest : map number xs ≡ map peer_no (range_with_len (a + 1) n) = cc in
    (ne_eqb x.0.0 q.0 (λ s. omega arith), above_other q xs (a + 1) n (omega arith) rest)

-- the traces of some numbers, of all that is told
abbrev pub traces_of : List PeerNo → List Told → List (PeerNo × List Entry)
traces_of peers xs = map (λ (q : PeerNo). (q, reverse (entries_in q xs))) peers

module _ (plan : Plan) (report : Report) where
  traces_from : (before later : List (PeerNo × Finished)) (a n : ℕ) → report.peers.items ≡ before ++ later → AllByRecursion (IsBelow a) before → map number later ≡ map peer_no (range_with_len a n)
      → map traced later ≡ traces_of (map number later) (told plan report)
  traces_from before [] a n cut hb e = refl
  traces_from before (x ∷ later) a zero cut hb e = absurd cc
  traces_from before (x ∷ later) a (suc n) cut hb e =
      let first : x.0 ≡ peer_no a = cc in
      let is : x.0.0 ≡ a = ap (λ (p : PeerNo). p.0) first in
      let rest : map number later ≡ map peer_no (range_with_len (a + 1) n) = cc in
      let below : AllByRecursion (IsBelow x.0.0) before = subst (λ (k : ℕ). AllByRecursion (IsBelow k) before) (sym is) hb in
      let one = trace_told plan x.0 report before later x cut (below_other x.0 before below) (above_other x.0 later (a + 1) n (omega arith) rest) (eq-eqb x.0.0 x.0.0 refl) in
      let self : x.0.0 < a + 1 = omega arith in
      let more = traces_from (before ++ x ∷ []) later (a + 1) n (cut ∙ sym (append_assoc before (x ∷ []) later)) (all_append (IsBelow (a + 1)) before (x ∷ []) (below_more a before hb) (self, tt)) rest in
      (λ i. (x.0, sym one i) ∷ more i)

  pub traces_told : map number report.peers.items ≡ numbers plan → traces report ≡ traces_of (numbers plan) (told plan report)
  traces_told e = traces_from [] report.peers.items 0 (length plan.peers) refl tt e ∙ ap (λ (peers : List PeerNo). traces_of peers (told plan report)) e
