-- Alike plans have one list of traces, and one of refused lines.
use Rattle.std.proofs.Common.{◌≡◌, ℕ, zero, suc, ◌<◌, ◌≤◌, List, [], ◌∷◌, ◌++◌, length, map, Option, Some, refl, sym, ap, ap₂, subst, ◌∙◌, append_assoc, inl, inr, arith, eq-or-lt_of_le, le_of_suc-le-suc}
use Rattle.std.specs.Prelude.{option_map, unwrap_or, slice_get}
use Rattle.std.specs.List.{AllByRecursion}
use Rattle.std.proofs.lemmas.List.{length-map}
use Rattle.std.proofs.lemmas.Option.{slice_get-map}
use Rattle.gs_base.specs.declared.names.PeerNo.{PeerNo}
use Rattle.gs_base.specs.Tokens.{Said}
use Rattle.gs_plan.specs.declared.plan.Plan.{Plan}
use Rattle.gs_params.specs.Seeding.{seeded_after, seeded_word}
use Rattle.gs_wire.specs.Codec.{codec}
use Rattle.gs_rules.specs.declared.refusal.RefusedLine.{RefusedLine}
use Rattle.gs_rules.specs.Peers.{links_of}
use Rattle.gs_rules.specs.Tables.{Entries}
use Rattle.gs_rules.specs.Modes.{exact, free}
use Rattle.gs_rules.specs.Legal.{Legal}
use Rattle.gs_rules.specs.Saying.{out}
use Rattle.gs_rules.specs.Rounds.{Seat, Phase, Playing, Closing, Plays, AfterRounds, KeepsRounds, agenda, moment_of}
use Rattle.gs_rules.proofs.Each.{each_weaker}
use Rattle.gs_rules.proofs.Handled.{GoesOn, does_on}
use Rattle.gs_rules.proofs.Legality.{exact_is_free, legal_weakly}
use Rattle.gs_report.specs.declared.finished.Finished.{Finished}
use Rattle.gs_seats.specs.Rounds.{first_words, neighbours, numbers, peer_in, said_to, seat_in, trace_of}
use Rattle.gs_seats.proofs.ByNumber.{at_number}
use Rattle.gs_seats.proofs.ByNumber.{as_many}
use Rattle.gs_seats.proofs.Joined.{IsJoined, neighbours_joined}
use Rattle.gs_seats.proofs.NeighbourLists.{links_in}
use Rattle.gs_laws.specs.Fixed.{AreHeardAlike, LegalByWords, NeighboursAreHeardAlike, first_rounds, shutdown}
use Rattle.gs_laws.specs.Runs.{ArePlayed, IsPlayed, TracesAreOne, however_run, refusals_of, traces_of}
use Rattle.gs_laws.proofs.Doing.{exact_then_before}
use Rattle.gs_laws.proofs.Heard.{phase_fixed}
use Rattle.gs_laws.proofs.Lists.{same_places, zipped_weaker}
use Rattle.gs_laws.proofs.Spoken.{all_said, rounds_said}

-- ---- traces that go on

goes_on_on : (K M L : Entries) → GoesOn K M → GoesOn M L → GoesOn K L
goes_on_on K M L h k = (k.0 ++ h.0, k.1 ∙ ap (λ (N : Entries). k.0 ++ N) h.1 ∙ sym (append_assoc k.0 h.0 K))

plays_on : (seat : Seat) (said : PeerNo → Said) (phase : Phase) (K L : Entries) (refused : List RefusedLine) → Plays seat said phase K L refused → GoesOn K L
plays_on seat said phase K L refused plays = does_on seat.peer (moment_of seat phase) (agenda seat phase plays.inbound) K L refused plays.does

-- a trace after r rounds, with another that goes on after it
record Reached (seat : Seat) (said : PeerNo → Said) (r : ℕ) (L : Entries) : Type 0 where
  trace : Entries
  refused : List RefusedLine
  played : AfterRounds seat said r trace refused
  goes_on : GoesOn trace L

-- fewer rounds were reached before
reach : (seat : Seat) (said : PeerNo → Said) (r n : ℕ) (L : Entries) (refused : List RefusedLine) → r ≤ n → AfterRounds seat said n L refused → Reached seat said r L
reach seat said r zero L refused few h =
    let none : zero ≡ r = omega (arith, few) in
    record { trace = L; refused = refused; played = subst (λ (k : ℕ). AfterRounds seat said k L refused) none h; goes_on = ([], refl) }
reach seat said r (suc n) L refused few (K, earlier, more, before, plays, is) = elim (eq-or-lt_of_le few) [
  | inl all ↦ record {
    trace = L;
    refused = refused;
    played = subst (λ (k : ℕ). AfterRounds seat said k L refused) (sym all) (K, earlier, more, before, plays, is);
    goes_on = ([], refl);
  }
  | inr less ↦
      let there = reach seat said r n K earlier (le_of_suc-le-suc less) before in
      record { trace = there.trace; refused = there.refused; played = there.played; goes_on = goes_on_on there.trace K L there.goes_on (plays_on seat said (Playing n) K L more plays) }
]

-- ---- a peer of a run

-- What is known of it, over its trace.
record Stands (plan : Plan) (lives : List Finished) (p : PeerNo) : Type 0 where
  life : Finished
  at : slice_get lives p.0 ≡ Some life
  trace : trace_of lives p ≡ life.trace
  legal : Legal (peer_in plan p) (trace_of lives p)
  chosen : LegalByWords seeded_word seeded_after (peer_in plan p) (first_words plan p) (trace_of lives p)
  keeps : KeepsRounds (seat_in plan p) (said_to lives p) (trace_of lives p) life.refused

stands : (plan : Plan) (lives : List Finished) (p : PeerNo) → ArePlayed plan lives → p.0 < length plan.peers → Stands plan lives p
stands plan lives p played below =
    let (life, at, is) = at_number (IsPlayed plan lives) plan p lives below played in
    let trace : trace_of lives p ≡ life.trace = ap (λ (found : Option Finished). unwrap_or (option_map (λ (f : Finished). f.trace) found) []) at in
    let legal : Legal (peer_in plan p) life.trace = legal_weakly (exact seeded_word seeded_after) free (λ u. tt) (exact_is_free seeded_word seeded_after) (peer_in plan p) (first_words plan p) is.chosen.0 [] life.trace is.chosen.1 in
    record {
      life = life;
      at = at;
      trace = trace;
      legal = subst (Legal (peer_in plan p)) (sym trace) legal;
      chosen = subst (LegalByWords seeded_word seeded_after (peer_in plan p) (first_words plan p)) (sym trace) is.chosen;
      keeps = subst (λ (L : Entries). KeepsRounds (seat_in plan p) (said_to lives p) L life.refused) (sym trace) is.keeps;
    }

-- where it had ended its last round
last_goes_on : (plan : Plan) (lives : List Finished) (p : PeerNo) (one : Stands plan lives p) → GoesOn one.keeps.last (trace_of lives p)
last_goes_on plan lives p one = plays_on (seat_in plan p) (said_to lives p) Closing one.keeps.last (trace_of lives p) [] one.keeps.closed

-- where r rounds of a life had ended
reached : (plan : Plan) (lives : List Finished) (p : PeerNo) (r : ℕ) → Stands plan lives p → r ≤ suc plan.rounds → Reached (seat_in plan p) (said_to lives p) r (trace_of lives p)
reached plan lives p r one few =
    let there = reach (seat_in plan p) (said_to lives p) r (suc plan.rounds) one.keeps.last one.life.refused few one.keeps.played in
    record { trace = there.trace; refused = there.refused; played = there.played; goes_on = goes_on_on there.trace one.keeps.last (trace_of lives p) there.goes_on (last_goes_on plan lives p one) }

-- what it says in its first rounds it had said by their end
said_by_then : (plan : Plan) (lives : List Finished) (p q : PeerNo) (r : ℕ) (there : Reached (seat_in plan q) (said_to lives q) r (trace_of lives q)) → first_rounds r (said_to lives p q) ≡ first_rounds r (out codec there.trace p)
said_by_then plan lives p q r there =
    ap (λ (L : Entries). first_rounds r (out codec L p)) there.goes_on.1
    ∙ rounds_said (seat_in plan q) (said_to lives q) r there.trace there.goes_on.0 there.refused p there.played

-- what holds of all peers of the plan holds of a peer's neighbours
of_neighbours : (plan : Plan) (p : PeerNo) (P : PeerNo → Type 0) → ((q : PeerNo) → q.0 < length plan.peers → P q) → AllByRecursion P (links_of (peer_in plan p))
of_neighbours plan p P all =
    subst (AllByRecursion P) (sym (links_in plan p)) (each_weaker (IsJoined plan p) P (λ q joined. all q joined.0) (neighbours plan p) (neighbours_joined plan p))

-- ---- two runs

-- after r rounds each peer has done the same, and refused the same
abbrev SameAfter : Plan → List Finished → List Finished → ℕ → Type 0
SameAfter plan lives others r =
    (p : PeerNo) (K J : Entries) (refused more : List RefusedLine)
    → p.0 < length plan.peers
    → AfterRounds (seat_in plan p) (said_to lives p) r K refused
    → GoesOn K (trace_of lives p)
    → AfterRounds (seat_in plan p) (said_to others p) r J more
    → GoesOn J (trace_of others p)
    → (K ≡ J) × (refused ≡ more)

module _ (plan : Plan) (lives others : List Finished) (run : ArePlayed plan lives) (run' : ArePlayed plan others) where
  -- so each has said the same in them
  same_said : (r : ℕ) → r ≤ suc plan.rounds → SameAfter plan lives others r → (p q : PeerNo) → q.0 < length plan.peers → first_rounds r (said_to lives p q) ≡ first_rounds r (said_to others p q)
  same_said r few same p q below =
      let k = reached plan lives q r (stands plan lives q run below) few in
      let j = reached plan others q r (stands plan others q run' below) few in
      said_by_then plan lives p q r k
      ∙ ap (λ (L : Entries). first_rounds r (out codec L p)) (same q k.trace j.trace k.refused j.refused below k.played k.goes_on j.played j.goes_on).0
      ∙ sym (said_by_then plan others p q r j)

  same_after : (r : ℕ) → r ≤ suc plan.rounds → SameAfter plan lives others r
  same_after zero few p K J refused more below h goes_on k goes_on' = (h.0 ∙ sym k.0, h.1 ∙ sym k.1)
  same_after (suc r) few p K J refused more below (I, earlier, now, before, plays, is) goes_on (I', earlier', now', before', plays', is') goes_on' =
      let seat : Seat = seat_in plan p in
      let less : r ≤ suc plan.rounds = omega (arith, few) in
      let same : SameAfter plan lives others r = same_after r less in
      let on = goes_on_on I K (trace_of lives p) (plays_on seat (said_to lives p) (Playing r) I K now plays) goes_on in
      let on' = goes_on_on I' J (trace_of others p) (plays_on seat (said_to others p) (Playing r) I' J now' plays') goes_on' in
      let was = same p I I' earlier earlier' below before on before' on' in
      let chosen = exact_then_before seeded_word seeded_after (peer_in plan p) (first_words plan p) K (trace_of lives p) goes_on (stands plan lives p run below).chosen in
      let chosen' = exact_then_before seeded_word seeded_after (peer_in plan p) (first_words plan p) J (trace_of others p) goes_on' (stands plan others p run' below).chosen in
      let alike : NeighboursAreHeardAlike seat (Playing r) (said_to lives p) (said_to others p) = of_neighbours plan p (λ (q : PeerNo). AreHeardAlike (Playing r) (said_to lives p q) (said_to others p q)) (λ q within. same_said r less same p q within) in
      let moved : Plays seat (said_to lives p) (Playing r) I' K now = subst (λ (N : Entries). Plays seat (said_to lives p) (Playing r) N K now) was.0 plays in
      let round = phase_fixed seeded_word seeded_after seat (first_words plan p) (Playing r) (said_to lives p) (said_to others p) I' K J now now' chosen chosen' alike moved plays' in
      (round.0, is ∙ ap₂ (λ (xs ys : List RefusedLine). xs ++ ys) was.1 round.1 ∙ sym is')

  -- where each has ended its last round
  same_last : (p : PeerNo) → p.0 < length plan.peers → (one : Stands plan lives p) (other : Stands plan others p) → (one.keeps.last ≡ other.keeps.last) × (one.life.refused ≡ other.life.refused)
  same_last p below one other =
      same_after (suc plan.rounds) (omega arith) p one.keeps.last other.keeps.last one.life.refused other.life.refused below one.keeps.played (last_goes_on plan lives p one) other.keeps.played (last_goes_on plan others p other)

  -- so each says the same at all
  same_words : (p q : PeerNo) → q.0 < length plan.peers → said_to lives p q ≡ said_to others p q
  same_words p q below =
      let seat : Seat = seat_in plan q in
      let one = stands plan lives q run below in
      let other = stands plan others q run' below in
      all_said seat (said_to lives q) one.keeps.last (trace_of lives q) [] p one.legal one.keeps.closed
      ∙ ap (λ (L : Entries). out codec (shutdown (moment_of seat Closing) ∷ L) p) (same_last q below one other).0
      ∙ sym (all_said seat (said_to others q) other.keeps.last (trace_of others q) [] p other.legal other.keeps.closed)

  -- each peer has done the same in both runs, and refused the same
  same_life : (p : PeerNo) → p.0 < length plan.peers → (one : Stands plan lives p) (other : Stands plan others p) → (one.life.trace ≡ other.life.trace) × (one.life.refused ≡ other.life.refused)
  same_life p below one other =
      let seat : Seat = seat_in plan p in
      let ended = same_last p below one other in
      let alike : NeighboursAreHeardAlike seat Closing (said_to lives p) (said_to others p) = of_neighbours plan p (λ (q : PeerNo). AreHeardAlike Closing (said_to lives p q) (said_to others p q)) (λ q within. same_words p q within) in
      let moved : Plays seat (said_to lives p) Closing other.keeps.last (trace_of lives p) [] = subst (λ (N : Entries). Plays seat (said_to lives p) Closing N (trace_of lives p) []) ended.0 one.keeps.closed in
      let closed = phase_fixed seeded_word seeded_after seat (first_words plan p) Closing (said_to lives p) (said_to others p) other.keeps.last (trace_of lives p) (trace_of others p) [] [] one.chosen other.chosen alike moved other.keeps.closed in
      (sym one.trace ∙ closed.0 ∙ other.trace, ended.1)

-- what each of two lists of lives has at each peer's number, they have
same_of_each : {B : Type 0} (f : Finished → B) (plan : Plan) (lives others : List Finished) → length lives ≡ length plan.peers → length others ≡ length plan.peers → ((p : PeerNo) → p.0 < length plan.peers → option_map f (slice_get lives p.0) ≡ option_map f (slice_get others p.0)) → map f lives ≡ map f others
same_of_each f plan lives others many many' same =
    let long : length (map f lives) ≡ length plan.peers = length-map lives f ∙ many in
    same_places (map f lives) (map f others) (long ∙ sym (length-map others f ∙ many'))
    (λ k below. slice_get-map f lives k ∙ same (record { 0 = k }) (omega (arith, below, long)) ∙ sym (slice_get-map f others k))

-- ---- however it is run

-- nothing by which lives are played speaks of that
played_however : (plan : Plan) (lives : List Finished) → ArePlayed plan lives → ArePlayed (however_run plan) lives
played_however plan lives played =
    zipped_weaker (IsPlayed plan lives) (IsPlayed (however_run plan) lives) (λ p life is. record { chosen = is.chosen; keeps = is.keeps }) (numbers plan) lives played

one_traces : (plan : Plan) (lives others : List Finished) → ArePlayed plan lives → ArePlayed plan others → (traces_of lives ≡ traces_of others) × (refusals_of lives ≡ refusals_of others)
one_traces plan lives others run run' =
    let many = as_many (IsPlayed plan lives) plan lives run in
    let many' = as_many (IsPlayed plan others) plan others run' in (
      same_of_each (λ (life : Finished). life.trace) plan lives others many many' (λ p below.
          let one = stands plan lives p run below in
          let other = stands plan others p run' below in
          ap (option_map (λ (life : Finished). life.trace)) one.at ∙ ap Some (same_life plan lives others run run' p below one other).0 ∙ sym (ap (option_map (λ (life : Finished). life.trace)) other.at)),
      same_of_each (λ (life : Finished). life.refused) plan lives others many many' (λ p below.
          let one = stands plan lives p run below in
          let other = stands plan others p run' below in
          ap (option_map (λ (life : Finished). life.refused)) one.at ∙ ap Some (same_life plan lives others run run' p below one other).1 ∙ sym (ap (option_map (λ (life : Finished). life.refused)) other.at)),
    )

pub traces_one : TracesAreOne
traces_one plan other lives others alike played played' =
    one_traces (however_run plan) lives others (played_however plan lives played) (subst (λ (any : Plan). ArePlayed any others) (sym alike) (played_however other others played'))
