-- Each line of the script that a peer refused is told once, in the round at whose moment it was refused.
use Rattle.std.proofs.Common.{◌≡◌, ℕ, zero, suc, ◌+◌, ◌*◌, ◌<◌, ◌≤◌, true, false, eqb, List, [], ◌∷◌, ◌++◌, length, map, filter, flat_map, Option, None, Some, refl, sym, ap, ◌∙◌, subst, append_assoc, append-nil, arith, eq-eqb, ne_eqb}
use Rattle.std.specs.List.{AllByRecursion, AllZip, range_with_len}
use Rattle.std.proofs.Math.Nat.{mul-lt-mul_of_pos_right}
use Rattle.std.proofs.lemmas.List.Concat.{flat_map-append}
use Rattle.std.proofs.lemmas.List.Elements.{filter-append}
use Rattle.gs_base.specs.declared.names.Millis.{Millis}
use Rattle.gs_base.specs.declared.names.PeerNo.{PeerNo}
use Rattle.gs_plan.specs.Plans.{IsInRange}
use Rattle.gs_plan.specs.declared.plan.Plan.{Plan}
use Rattle.gs_rules.specs.declared.event.Event.TheVariants as events
use Rattle.gs_rules.specs.declared.refusal.Refusal.{Refusal}
use Rattle.gs_rules.specs.declared.refusal.RefusedLine.{RefusedLine}
use Rattle.gs_rules.specs.Peers.{Peer}
use Rattle.gs_rules.specs.Refusals.{refusal}
use Rattle.gs_rules.specs.Rounds.{AfterRounds, Does, Playing, Seat, Todo, Hear, HearFault, HearGone, Obey, DecayCounters, Beat, EndRound, Stop, agenda, moment_of, note_of, noted}
use Rattle.gs_rules.specs.Saying.{Said}
use Rattle.gs_rules.specs.Tables.{Entries}
use Rattle.gs_seats.specs.Reports.{IsReport}
use Rattle.gs_seats.specs.Rounds.{IsLifeInRun, peer_no, said_to, seat_in}
use Rattle.gs_seats.proofs.EachPeer.{range_more}
use Rattle.gs_report.specs.declared.finished.Finished.{Finished}
use Rattle.gs_report.specs.declared.report.Report.{Report}
use Rattle.gs_trace.specs.Lines.{Seen, Told, Refused, did, in_round, is_refused_in, seen_by, told, told_in, told_of}
use Rattle.gs_trace.specs.Traces.{refusal_of, refusals_in}
use Rattle.gs_trace.proofs.Rounds.{all_append}
use Rattle.gs_trace.proofs.Traces.{IsBelow, IsOther, above_other, below_more, below_other, number}

-- ---- when lines are refused

abbrev IsAt : ℕ → RefusedLine → Type 0
IsAt at line = line.at.0 ≡ at

note_at : (at : Millis) (place : ℕ) (why : Option Refusal) → AllByRecursion (IsAt at.0) (note_of at place why)
note_at at place None = tt
note_at at place (Some why) = (refl, tt)

noted_at : (p : Peer) (K : Entries) (at : Millis) (todo : Todo) → AllByRecursion (IsAt at.0) (noted p K at todo)
noted_at p K at (Obey place what) = note_at at place (refusal p K at.0 (events.Own what))
noted_at p K at (Hear q rpc) = tt
noted_at p K at (HearFault q) = tt
noted_at p K at (HearGone q) = tt
noted_at p K at DecayCounters = tt
noted_at p K at Beat = tt
noted_at p K at (EndRound r) = tt
noted_at p K at Stop = tt

done_at : (p : Peer) (at : Millis) (todos : List Todo) (K L : Entries) (refused : List RefusedLine) → Does p at todos K L refused → AllByRecursion (IsAt at.0) refused
done_at p at [] K L refused (same, none) = subst (AllByRecursion (IsAt at.0)) (sym none) tt
done_at p at (todo ∷ todos) K L refused (M, later, comes, does, is) =
    subst (AllByRecursion (IsAt at.0)) (sym is)
    (all_append (IsAt at.0) (noted p K at todo) later (noted_at p K at todo) (done_at p at todos M L later does))

-- ---- the lines of each round

module _ (ms : ℕ) (some : 0 < ms) where
  abbrev of_round : ℕ → List RefusedLine → List RefusedLine
  of_round r lines = filter (is_refused_in ms r) lines

  abbrev IsBefore : ℕ → RefusedLine → Type 0
  IsBefore n line = line.at.0 < n * ms

  its_own : (r : ℕ) (lines : List RefusedLine) → AllByRecursion (IsAt (r * ms)) lines → of_round r lines ≡ lines
  its_own r [] h = refl
  its_own r (line ∷ lines) h = rw (eq-eqb line.at.0 (r * ms) h.0) (ap (λ (l : List RefusedLine). line ∷ l) (its_own r lines h.1))

  none_of_later : (r n : ℕ) (lines : List RefusedLine) → r < n → AllByRecursion (IsAt (n * ms)) lines → of_round r lines ≡ []
  none_of_later r n [] lt h = refl
  none_of_later r n (line ∷ lines) lt h =
      let apart : r * ms < n * ms = mul-lt-mul_of_pos_right lt some in
      let is : line.at.0 ≡ n * ms = h.0 in
      rw (ne_eqb line.at.0 (r * ms) (λ e. omega (arith, apart, is, e))) (none_of_later r n lines lt h.1)

  none_of_earlier : (n : ℕ) (lines : List RefusedLine) → AllByRecursion (IsBefore n) lines → of_round n lines ≡ []
  none_of_earlier n [] h = refl
  none_of_earlier n (line ∷ lines) h =
      let before : line.at.0 < n * ms = h.0 in
      rw (ne_eqb line.at.0 (n * ms) (λ e. omega (arith, before, e))) (none_of_earlier n lines h.1)

  before_more : (n : ℕ) (lines : List RefusedLine) → AllByRecursion (IsBefore n) lines → AllByRecursion (IsBefore (suc n)) lines
  before_more n [] h = tt
  before_more n (line ∷ lines) h =
      let before : line.at.0 < n * ms = h.0 in
      let one : n * ms < suc n * ms = mul-lt-mul_of_pos_right (omega arith) some in
      (omega (arith, before, one), before_more n lines h.1)

  at_before : (n : ℕ) (lines : List RefusedLine) → AllByRecursion (IsAt (n * ms)) lines → AllByRecursion (IsBefore (suc n)) lines
  at_before n [] h = tt
  at_before n (line ∷ lines) h =
      let is : line.at.0 ≡ n * ms = h.0 in
      let one : n * ms < suc n * ms = mul-lt-mul_of_pos_right (omega arith) some in
      (omega (arith, is, one), at_before n lines h.1)

  -- those of a later round change no earlier one
  as_before : (n : ℕ) (earlier more : List RefusedLine) (rs : List ℕ) → AllByRecursion (λ r. r < n) rs → AllByRecursion (IsAt (n * ms)) more
      → flat_map (λ r. of_round r (earlier ++ more)) rs ≡ flat_map (λ r. of_round r earlier) rs
  as_before n earlier more [] below h = refl
  as_before n earlier more (r ∷ rs) below h =
      let one : of_round r (earlier ++ more) ≡ of_round r earlier =
      filter-append (is_refused_in ms r) earlier more ∙ ap (λ (l : List RefusedLine). of_round r earlier ++ l) (none_of_later r n more below.0 h) ∙ append-nil (of_round r earlier) in
      let others = as_before n earlier more rs below.1 h in
      (λ i. one i ++ others i)

range_below : (a n most : ℕ) → a + n ≤ most → AllByRecursion (λ r. r < most) (range_with_len a n)
range_below a zero most h = tt
range_below a (suc n) most h = (omega (arith, h), range_below (a + 1) n most (omega (arith, h)))

-- What is refused after some rounds: each is of one of them, and those of each round are all.
record InRounds (ms n : ℕ) (refused : List RefusedLine) : Type 0 where
  before : AllByRecursion (λ (line : RefusedLine). line.at.0 < n * ms) refused
  all : flat_map (λ r. filter (is_refused_in ms r) refused) (range_with_len 0 n) ≡ refused

one_round_more : (ms n : ℕ) (earlier more : List RefusedLine) → 0 < ms → InRounds ms n earlier → AllByRecursion (IsAt (n * ms)) more → InRounds ms (suc n) (earlier ++ more)
one_round_more ms n earlier more some h at =
    let both = earlier ++ more in
    let zero_more : 0 + n ≡ n = omega arith in
    let last : of_round ms some n both ≡ more =
    filter-append (is_refused_in ms n) earlier more
    ∙ ap (λ (l : List RefusedLine). l ++ of_round ms some n more) (none_of_earlier ms some n earlier h.before)
    ∙ its_own ms some n more at in
    let first = as_before ms some n earlier more (range_with_len 0 n) (range_below 0 n n (omega arith)) at ∙ h.all in
    record {
      before = all_append (λ (line : RefusedLine). line.at.0 < suc n * ms) earlier more (before_more ms some n earlier h.before) (at_before ms some n more at);
      all =
          ap (flat_map (λ r. of_round ms some r both)) (range_more 0 n)
          ∙ flat_map-append (λ r. of_round ms some r both) (range_with_len 0 n) ((0 + n) ∷ [])
          ∙ ap (λ (k : ℕ). flat_map (λ r. of_round ms some r both) (range_with_len 0 n) ++ flat_map (λ r. of_round ms some r both) (k ∷ [])) zero_more
          ∙ (λ i. first i ++ (append-nil (of_round ms some n both) ∙ last) i);
    }

after_rounds : (seat : Seat) (said : PeerNo → Said) (n : ℕ) (L : Entries) (refused : List RefusedLine) → 0 < seat.round_ms → AfterRounds seat said n L refused → InRounds seat.round_ms n refused
after_rounds seat said zero L refused some (same, none) =
    subst (InRounds seat.round_ms 0) (sym none) (record { before = tt; all = refl })
after_rounds seat said (suc n) L refused some (K, earlier, more, begun, plays, is) =
    subst (InRounds seat.round_ms (suc n)) (sym is)
    (one_round_more seat.round_ms n earlier more some (after_rounds seat said n K earlier some begun)
    (done_at seat.peer (moment_of seat (Playing n)) (agenda seat (Playing n) plays.inbound) K L more plays.does))

-- ---- the lines of one peer

both_in : (q : PeerNo) (xs ys : List Told) → refusals_in q (xs ++ ys) ≡ refusals_in q xs ++ refusals_in q ys
both_in q xs ys = flat_map-append (refusal_of q) xs ys

all_in : {A : Type 0} (q : PeerNo) (f : A → List Told) (xs : List A) → refusals_in q (flat_map f xs) ≡ flat_map (λ x. refusals_in q (f x)) xs
all_in q f [] = refl
all_in q f (x ∷ xs) = both_in q (f x) (flat_map f xs) ∙ ap (λ (l : List RefusedLine). refusals_in q (f x) ++ l) (all_in q f xs)

none_done : (r : ℕ) (q p : PeerNo) (xs : List Seen) → refusals_in q (map (did r p) xs) ≡ []
none_done r q p [] = refl
none_done r q p (x ∷ xs) = none_done r q p xs

own_lines : (r : ℕ) (q p : PeerNo) (lines : List RefusedLine) → eqb p.0 q.0 ≡ true → refusals_in q (map (Refused r p) lines) ≡ lines
own_lines r q p [] h = refl
own_lines r q p (line ∷ lines) h = rw h (ap (λ (l : List RefusedLine). line ∷ l) (own_lines r q p lines h))

other_lines : (r : ℕ) (q p : PeerNo) (lines : List RefusedLine) → eqb p.0 q.0 ≡ false → refusals_in q (map (Refused r p) lines) ≡ []
other_lines r q p [] h = refl
other_lines r q p (line ∷ lines) h = rw h (other_lines r q p lines h)

module _ (plan : Plan) (q : PeerNo) where
  own_told : (r : ℕ) (x : PeerNo × Finished) → eqb x.0.0 q.0 ≡ true → refusals_in q (told_of plan r x) ≡ filter (is_refused_in plan.round_ms r) x.1.refused
  own_told r x h =
      let es = in_round plan.rounds r (seen_by plan x) in
      let lines = filter (is_refused_in plan.round_ms r) x.1.refused in
      let none = none_done r q x.0 es in
      let own = own_lines r q x.0 lines h in
      both_in q (map (did r x.0) es) (map (Refused r x.0) lines) ∙ (λ i. none i ++ own i)

  other_told : (r : ℕ) (x : PeerNo × Finished) → eqb x.0.0 q.0 ≡ false → refusals_in q (told_of plan r x) ≡ []
  other_told r x h =
      let es = in_round plan.rounds r (seen_by plan x) in
      let lines = filter (is_refused_in plan.round_ms r) x.1.refused in
      let none = none_done r q x.0 es in
      let own = other_lines r q x.0 lines h in
      both_in q (map (did r x.0) es) (map (Refused r x.0) lines) ∙ (λ i. none i ++ own i)

  others_told : (r : ℕ) (xs : List (PeerNo × Finished)) → AllByRecursion (IsOther q) xs → refusals_in q (flat_map (told_of plan r) xs) ≡ []
  others_told r [] h = refl
  others_told r (x ∷ xs) h =
      let one = other_told r x h.0 in
      let more = others_told r xs h.1 in
      both_in q (told_of plan r x) (flat_map (told_of plan r) xs) ∙ (λ i. one i ++ more i)

  -- of a round
  peer_told : (r : ℕ) (before later : List (PeerNo × Finished)) (x : PeerNo × Finished) → AllByRecursion (IsOther q) before → AllByRecursion (IsOther q) later → eqb x.0.0 q.0 ≡ true
      → refusals_in q (flat_map (told_of plan r) (before ++ x ∷ later)) ≡ filter (is_refused_in plan.round_ms r) x.1.refused
  peer_told r before later x hb hl h =
      let none = others_told r before hb in
      let one = own_told r x h in
      let last = others_told r later hl in
      ap (refusals_in q) (flat_map-append (told_of plan r) before (x ∷ later))
      ∙ both_in q (flat_map (told_of plan r) before) (told_of plan r x ++ flat_map (told_of plan r) later)
      ∙ (λ i. none i ++ both_in q (told_of plan r x) (flat_map (told_of plan r) later) i)
      ∙ (λ i. one i ++ last i) ∙ append-nil (filter (is_refused_in plan.round_ms r) x.1.refused)

  -- of all rounds
  life_told : (report : Report) (before later : List (PeerNo × Finished)) (x : PeerNo × Finished) → report.peers.items ≡ before ++ x ∷ later → AllByRecursion (IsOther q) before → AllByRecursion (IsOther q) later → eqb x.0.0 q.0 ≡ true
      → InRounds plan.round_ms (suc plan.rounds) x.1.refused
      → refusals_in q (told plan report) ≡ x.1.refused
  life_told report before later x cut hb hl h rounds =
      let each : (r : ℕ) → refusals_in q (told_in plan report r) ≡ filter (is_refused_in plan.round_ms r) x.1.refused =
      λ r. ap (λ (l : List (PeerNo × Finished)). refusals_in q (flat_map (told_of plan r) l)) cut ∙ peer_told r before later x hb hl h in
      let rs = range_with_len 0 (suc plan.rounds) in
      all_in q (told_in plan report) rs ∙ (λ i. flat_map (λ r. each r i) rs) ∙ rounds.all

-- ---- the lines of all peers

abbrev refused_by : PeerNo × Finished → List RefusedLine
refused_by x = x.1.refused

module _ (plan : Plan) (report : Report) where
  told_from : (before later : List (PeerNo × Finished)) (a n : ℕ) → report.peers.items ≡ before ++ later → AllByRecursion (IsBelow a) before → map number later ≡ map peer_no (range_with_len a n)
      → AllByRecursion (λ (x : PeerNo × Finished). InRounds plan.round_ms (suc plan.rounds) x.1.refused) later
      → map (λ (x : PeerNo × Finished). refusals_in x.0 (told plan report)) later ≡ map refused_by later
  told_from before [] a n cut hb e h = refl
  told_from before (x ∷ later) a zero cut hb e h = absurd cc
  told_from before (x ∷ later) a (suc n) cut hb e h =
      let first : x.0 ≡ peer_no a = cc in
      let is : x.0.0 ≡ a = ap (λ (p : PeerNo). p.0) first in
      let rest : map number later ≡ map peer_no (range_with_len (a + 1) n) = cc in
      let below : AllByRecursion (IsBelow x.0.0) before = subst (λ (k : ℕ). AllByRecursion (IsBelow k) before) (sym is) hb in
      let one = life_told plan x.0 report before later x cut (below_other x.0 before below) (above_other x.0 later (a + 1) n (omega arith) rest) (eq-eqb x.0.0 x.0.0 refl) h.0 in
      let self : x.0.0 < a + 1 = omega arith in
      let more = told_from (before ++ x ∷ []) later (a + 1) n (cut ∙ sym (append_assoc before (x ∷ []) later)) (all_append (IsBelow (a + 1)) before (x ∷ []) (below_more a before hb) (self, tt)) rest h.1 in
      (λ i. one i ∷ more i)

lives_in_rounds : (plan : Plan) (lives : List Finished) (xs : List (PeerNo × Finished)) → 0 < plan.round_ms → AllZip (IsLifeInRun plan lives) (map number xs) (map (λ (x : PeerNo × Finished). x.1) xs)
    → AllByRecursion (λ (x : PeerNo × Finished). InRounds plan.round_ms (suc plan.rounds) x.1.refused) xs
lives_in_rounds plan lives [] some h = tt
lives_in_rounds plan lives (x ∷ xs) some h =
    let life : IsLifeInRun plan lives x.0 x.1 = h.0 in
    (after_rounds (seat_in plan x.0) (said_to lives x.0) (suc plan.rounds) life.keeps.last x.1.refused some life.keeps.played, lives_in_rounds plan lives xs some h.1)

pub refusals_told : (plan : Plan) (report : Report) → IsInRange plan → IsReport plan report
    → map (λ (x : PeerNo × Finished). refusals_in x.0 (told plan report)) report.peers.items ≡ map refused_by report.peers.items
refusals_told plan report range run =
    let lives = map (λ (x : PeerNo × Finished). x.1) report.peers.items in
    let some : 0 < plan.round_ms = range.some_time in
    told_from plan report [] report.peers.items 0 (length plan.peers) refl tt run.numbers_are
    (lives_in_rounds plan lives report.peers.items some (subst (λ (ps : List PeerNo). AllZip (IsLifeInRun plan lives) ps lives) (sym run.numbers_are) run.run))
