-- Once all peers have played a round, they stand after it.
use Rattle.std.proofs.Common.{◌≡◌, ◌≤◌, ◌<◌, ◌*◌, ℕ, zero, suc, pred, Bool, true, false, List, [], ◌∷◌, ◌++◌, length, reverse, Option, Some, inl, inr, refl, sym, ap, ap₂, subst, subst₂, ◌∙◌, arith, true≢false, eq-or-lt_of_le, le_of_suc-le-suc}
use Rattle.std.specs.Prelude.{option_map, unwrap_or, slice_get, Vec}
use Rattle.std.specs.List.{AllByRecursion, AllZip}
use Rattle.std.specs.declared.alloc.Global.{Global}
use Rattle.std.proofs.lemmas.List.{append_cancel_right}
use Rattle.std.proofs.lemmas.Bool.{cases_lt}
use Rattle.std.proofs.lemmas.Option.{same_Some, slice_get_past}
use Rattle.gs_base.specs.declared.names.PeerNo.{PeerNo}
use Rattle.gs_base.specs.declared.names.Millis.{Millis}
use Rattle.gs_base.specs.Names.{same_peer}
use Rattle.gs_base.specs.Tokens.{Said}
use Rattle.gs_params.specs.Seeding.{SeededState, seeded_after, seeded_word}
use Rattle.gs_params.proofs.Picking.{distinct_from_ascending}
use Rattle.gs_plan.specs.declared.plan.Plan.{Plan}
use Rattle.gs_plan.specs.Plans.{are_joined}
use Rattle.gs_wire.specs.Codec.{codec}
use Rattle.gs_rules.specs.declared.trace.Entry.{Entry}
use Rattle.gs_rules.specs.declared.refusal.RefusedLine.{RefusedLine}
use Rattle.gs_rules.specs.Peers.{Peer as RulesPeer, links_of}
use Rattle.gs_rules.specs.Tables.{Entries, last_moment}
use Rattle.gs_rules.specs.Modes.{exact}
use Rattle.gs_rules.specs.Legal.{Legal, LegalOn}
use Rattle.gs_rules.specs.Saying.{out}
use Rattle.gs_rules.specs.Hearing.{ComesIn}
use Rattle.gs_rules.specs.Rounds.{AfterRounds, Does, Playing, Plays, Seat, Todo, hears, moment_of}
use Rattle.gs_rules.proofs.Each.{each_weaker}
use Rattle.gs_rules.proofs.Gathered.{gathered_after_rounds}
use Rattle.gs_rules.proofs.Handled.{GoesOn, StandsOnce, distinct_once, does_on}
use Rattle.gs_router.specs.Log.{this_round}
use Rattle.gs_seats.specs.ListsByPeer.{list_at}
use Rattle.gs_seats.specs.Rounds.{first_words, lines_in, neighbours, peer_in, peer_no, seat_in, phase_of}
use Rattle.gs_seats.proofs.ByNumber.{as_many, at_number, zip_by_number}
use Rattle.gs_seats.proofs.Joined.{IsJoined, joined_back, joined_both, neighbours_joined, of_joined}
use Rattle.gs_seats.proofs.NeighbourLists.{links_ascend, links_in}
use Rattle.gs_seats.proofs.Truths.{is_same}
use Rattle.gs_player.specs.Ended.{whole}
use Rattle.gs_player.specs.Playing.{behind_heard, clock_at}
use Rattle.gs_player.proofs.Growing.{rounds_stay}
use Rattle.gs_player.proofs.Growing as growing
use Rattle.gs_player.proofs.Middle.{IsRoundOf, round_of}
use Rattle.gs_player.proofs.Runs.{legal_more}
use Rattle.gs_player.proofs.Spoken.{told_more}
use Rattle.gs_player.proofs.Words.{whole_before}
use Rattle.gs_direct.specs.declared.letter.Letter.{Letter}
use Rattle.gs_direct.specs.declared.outlet.Outlet.{Outlet}
use Rattle.gs_direct.specs.declared.peer.Peer.{Peer}
use Rattle.gs_direct.specs.Letters.{all_heard}
use Rattle.gs_direct.specs.Observing.{HaveGrown}
use Rattle.gs_direct.specs.Outlets.{IsHandedOver, SaysAll, given, letters_of}
use Rattle.gs_direct.specs.Runs.{AreAt, Arrive, ArriveFrom, Delivers, DeliversIf, GivenTo, HavePlayed, IsAt, IsReady, Turns, TurnsAt, said_so_far, trace_at}
use Rattle.gs_direct.proofs.Arriving.{AreHeard, all_arrive, nothing_arrives, one_arrives}
use Rattle.gs_direct.proofs.Giving.{each_second, each_third, given_none, given_once, tos, tos_zip}
use Rattle.gs_direct.proofs.Handing.{Passes, delivers, ready_next}
use Rattle.gs_direct.proofs.Rounding.{round_adds, rounds_end}
use Rattle.gs_direct.proofs.Rounds.{IsAmongPeers, alike_append, alike_does, alike_same, ended_is_down}

-- ---- a peer's trace

pub trace_is : {T : Type 0} → (peers : List (Peer T)) (q : PeerNo) (peer : Peer T) → slice_get peers q.0 ≡ Some peer → trace_at peers q ≡ peer.router.trace
trace_is {T} peers q peer at = ap (λ (found : Option (Peer T)). unwrap_or (option_map (λ (x : Peer T). x.router.trace) found) []) at

-- ---- who has an outlet

-- what holds of the outlets holds of the neighbours that they lead to
pub of_tos : (P : Outlet → Type 0) (Q : PeerNo → Type 0) → ((o : Outlet) → P o → Q o.to) → (outlets : List Outlet) → AllByRecursion P outlets → AllByRecursion Q (tos outlets)
of_tos P Q so [] each = tt
of_tos P Q so (o ∷ outlets) each = (so o each.0, of_tos P Q so outlets each.1)

among_each : (qs : List PeerNo) → AllByRecursion (λ q. IsAmongPeers q qs) qs
among_each [] = tt
among_each (q ∷ qs) = (inl refl, each_weaker (λ (s : PeerNo). IsAmongPeers s qs) (λ (s : PeerNo). IsAmongPeers s (q ∷ qs)) (λ s h. inr h) qs (among_each qs))

-- whoever is joined to p is among its neighbours
pub is_among : (plan : Plan) (p q : PeerNo) → IsJoined plan p q → IsAmongPeers q (links_of (peer_in plan p))
is_among plan p q joined = subst (IsAmongPeers q) (sym (links_in plan p)) (of_joined (λ (s : PeerNo). IsAmongPeers s (neighbours plan p)) plan p q joined (among_each (neighbours plan p)))

once_joined : (plan : Plan) (p q : PeerNo) → IsJoined plan p q → StandsOnce q (neighbours plan p)
once_joined plan p q joined =
    of_joined (λ (s : PeerNo). StandsOnce s (neighbours plan p)) plan p q joined
    (subst (λ (qs : List PeerNo). AllByRecursion (λ s. StandsOnce s qs) qs) (links_in plan p) (distinct_once (links_of (peer_in plan p)) (distinct_from_ascending (links_of (peer_in plan p)) (links_ascend plan p))))

-- whoever is not joined to it is none of them
none_apart : (plan : Plan) (p q : PeerNo) → are_joined plan.dials p q ≡ false → AllByRecursion (λ s. same_peer s q ≡ false) (neighbours plan p)
none_apart plan p q apart = each_weaker (IsJoined plan p) (λ (s : PeerNo). same_peer s q ≡ false) (λ s joined. by s joined.1 (same_peer s q) refl) (neighbours plan p) (neighbours_joined plan p)
  where
    by : (s : PeerNo) → are_joined plan.dials p s ≡ true → (b : Bool) → same_peer s q ≡ b → same_peer s q ≡ false
    by s joined false is = is
    by s joined true is = absurd (true≢false (sym joined ∙ ap (are_joined plan.dials p) (is_same s q is) ∙ apart))

-- a peer that is not there does nothing
pub nobody : {T : Type 0} → (olds news : List (Peer T)) (p : PeerNo) → length olds ≤ p.0 → length news ≤ p.0 → trace_at news p ≡ this_round (trace_at news p) ++ trace_at olds p
nobody {T} olds news p before after =
    let none : (peers : List (Peer T)) → length peers ≤ p.0 → trace_at peers p ≡ [] =
    λ peers above. ap (λ (found : Option (Peer T)). unwrap_or (option_map (λ (x : Peer T). x.router.trace) found) []) (slice_get_past peers p.0 above) in
    none news after ∙ sym (ap₂ (λ (M N : Entries). this_round M ++ N) (none news after) (none olds before))

-- ---- a round of all peers

module _ {T : Type 0} (plan : Plan) (r : ℕ) (olds news : List (Peer T)) (mail mail' next : List (Vec Letter Global))
    (before : AreAt plan r olds mail)
    (played : HavePlayed r (moment_of (seat_in plan (peer_no 0)) (Playing r)) olds mail (length plan.peers) news mail' next) where
  abbrev now : Millis
  now = moment_of (seat_in plan (peer_no 0)) (Playing r)

  -- the turn of one of the first n
  turn_of : (p : PeerNo) (n k : ℕ) (letters : List Letter) → k < n → GivenTo r now olds news mail p n letters → (gives : PeerNo → List Letter) × TurnsAt r now olds news mail k gives
  turn_of p zero k letters below h = absurd (omega (arith, below))
  turn_of p (suc n) k letters below (earlier, gives, rest, turn, is) = elim (eq-or-lt_of_le (le_of_suc-le-suc below)) [
    | inl same ↦ (gives, subst (λ (m : ℕ). TurnsAt r now olds news mail m gives) (sym same) turn)
    | inr less ↦ turn_of p n k earlier less rest
  ]

  -- A peer, before and after the round.
  record Moved (p : PeerNo) : Type 0 where
    old : Peer T
    new : Peer T
    gives : PeerNo → List Letter
    was : slice_get olds p.0 ≡ Some old
    is : slice_get news p.0 ≡ Some new
    at : IsAt plan r olds p old
    turns : Turns r now (list_at mail p.0) old new gives

  moved : (p : PeerNo) → p.0 < length plan.peers → Moved p
  moved p below =
      let (old, was, at) = at_number (IsAt plan r olds) plan p olds below before.each in
      let (gives, turn) = turn_of p (length plan.peers) p.0 (list_at next p.0) below (played.gives p) in
      let same : turn.old ≡ old = same_Some turn.old old (sym turn.was ∙ was) in
      record {
        old = old;
        new = turn.new;
        gives = gives;
        was = was;
        is = turn.is;
        at = at;
        turns = subst (λ (x : Peer T). Turns r now (list_at mail p.0) x turn.new gives) same turn.turns;
      }

  module _ (p : PeerNo) (m : Moved p) where
    abbrev seat : Seat
    seat = seat_in plan p

    abbrev K : Entries
    K = m.old.router.trace

    abbrev L : Entries
    L = m.turns.played.router.trace

    new_trace : m.new.router.trace ≡ L
    new_trace = ap (λ (x : Peer T). x.router.trace) m.turns.rest

    goes_on : GoesOn K L
    goes_on = does_on m.old.router.peer now (all_heard (list_at mail p.0) ++ behind_heard m.old.router.peer r (clock_at m.old.phase_ms now) m.old.agenda) K L m.turns.plays.more m.turns.plays.runs.does

  -- more is said than before
  grows : (p q : PeerNo) → q.0 < length plan.peers → (more : Said) × (said_so_far news p q ≡ said_so_far olds p q ++ more)
  grows p q below =
      let m = moved q below in
      let on = goes_on q m in
      let (more, is) = told_more p (K q m) on.0 in (
        more,
        ap (λ (M : Entries). out codec M p) (trace_is news q m.new m.is ∙ new_trace q m ∙ on.1)
            ∙ is
            ∙ ap (λ (M : Entries). out codec M p ++ more) (sym (trace_is olds q m.old m.was)),
      )

  -- the rounds so far have ended in what was said
  ended_before : (p q : PeerNo) → p.0 < length plan.peers → IsJoined plan p q → whole r (said_so_far olds p q) ≡ true
  ended_before p q below joined =
      let m = moved q joined.0 in
      let each : AllByRecursion (λ (s : PeerNo). whole r (out codec (K q m) s) ≡ true) (neighbours plan q) =
      subst (AllByRecursion (λ (s : PeerNo). whole r (out codec (K q m) s) ≡ true)) m.at.links
      (of_tos (IsReady r (K q m)) (λ (s : PeerNo). whole r (out codec (K q m) s) ≡ true) (λ o ready. ready.stands.ended) m.old.outlets.items m.at.ready) in
      ap (λ (M : Entries). whole r (out codec M p)) (trace_is olds q m.old m.was)
      ∙ of_joined (λ (s : PeerNo). whole r (out codec (K q m) s) ≡ true) plan q p (joined_back plan p q below joined) each

  -- ---- what a peer has done

  module _ (p : PeerNo) (below : p.0 < length plan.peers) (m : Moved p) where
    abbrev said : PeerNo → Said
    said = said_so_far news p

    played_before : AfterRounds (seat p m) said r (K p m) m.old.refused.items
    played_before =
        rounds_stay (seat p m) r (said_so_far olds p) said (K p m) m.old.refused.items
        (subst (AllByRecursion (growing.GoesOn (pred r) (said_so_far olds p) said)) (sym (links_in plan p))
        (each_weaker (IsJoined plan p) (growing.GoesOn (pred r) (said_so_far olds p) said) (λ q joined. (before_that r (said_so_far olds p q) (ended_before p q below joined), (grows p q joined.0).0, (grows p q joined.0).1)) (neighbours plan p) (neighbours_joined plan p)))
        m.at.played
      where
        before_that : (n : ℕ) (w : Said) → whole n w ≡ true → whole (pred n) w ≡ true
        before_that zero w h = h
        before_that (suc n) w h = whole_before n w h

    -- what it hears
    heard : AreHeard (λ q x. ComesIn r (said q) x) (K p m) (neighbours plan p) (list_at mail p.0)
    heard = by r refl (before.letters p below)
      where
        by : (n : ℕ) → r ≡ n → Arrive plan n olds p (list_at mail p.0) → AreHeard (λ q x. ComesIn n (said q) x) (K p m) (neighbours plan p) (list_at mail p.0)
        by zero is none = nothing_arrives said (K p m) (neighbours plan p) (list_at mail p.0) none
        by (suc n) is arrive =
            all_arrive plan.dials n olds p (λ q x. ComesIn (suc n) (said q) x) (K p m) (length plan.peers) (length plan.peers) (list_at mail p.0) (omega arith)
            (λ q last within joined d. one_arrives n said (K p m) q (said_so_far olds p q) (grows p q within).0 last (grows p q within).1
            (λ ended. ended_is_down (seat p m) (said_so_far olds p) q n (K p m) m.old.refused.items (is_among plan p q (within, joined)) ended
            (subst (λ (k : ℕ). AfterRounds (seat p m) (said_so_far olds p) k (K p m) m.old.refused.items) is m.at.played)) d)
            arrive

    plays : Plays (seat p m) said (Playing r) (K p m) (L p m) m.turns.plays.more
    plays =
        let links : links_of (peer_in plan p) ≡ neighbours plan p = links_in plan p in
        let rest : List Todo = behind_heard (peer_in plan p) r (clock_at (phase_of plan p) now) (lines_in plan p) in
        let did : Does (peer_in plan p) now (all_heard (list_at mail p.0) ++ rest) (K p m) (L p m) m.turns.plays.more =
        subst₂ (λ (x : RulesPeer) (lines : List _). Does x now (all_heard (list_at mail p.0) ++ behind_heard x r (clock_at (phase_of plan p) now) lines) (K p m) (L p m) m.turns.plays.more) m.at.router m.at.agenda
        (subst (λ (k : ℕ). Does m.old.router.peer now (all_heard (list_at mail p.0) ++ behind_heard m.old.router.peer r (clock_at k now) m.old.agenda) (K p m) (L p m) m.turns.plays.more) m.at.phase m.turns.plays.runs.does) in
        let does : Does (peer_in plan p) now (hears (neighbours plan p) heard.inbound ++ rest) (K p m) (L p m) m.turns.plays.more =
        alike_does (peer_in plan p) now (K p m) (all_heard (list_at mail p.0) ++ rest) (hears (neighbours plan p) heard.inbound ++ rest) (K p m) (L p m) m.turns.plays.more
        (alike_append (K p m) (all_heard (list_at mail p.0)) (hears (neighbours plan p) heard.inbound) rest rest heard.alike (alike_same (K p m) rest)) ([], refl) did in
        record {
          inbound = heard.inbound;
          was_said = subst (λ (qs : List PeerNo). AllZip (λ q x. ComesIn r (said q) x) qs heard.inbound) (sym links) heard.was_said;
          does = subst (λ (qs : List PeerNo). Does (peer_in plan p) now (hears qs heard.inbound ++ rest) (K p m) (L p m) m.turns.plays.more) (sym links) does;
        }

    legal : LegalOn (exact seeded_word seeded_after) (peer_in plan p) (first_words plan p) [] (L p m) m.turns.played.words
    legal = legal_more (peer_in plan p) m.old.router.peer (first_words plan p) m.old.words m.turns.played.words (K p m) (L p m) m.at.router m.at.legal m.turns.plays.runs.appended

    freely : Legal (peer_in plan p) (L p m)
    freely = subst (λ (x : RulesPeer). Legal x (L p m)) (m.turns.plays.runs.peer ∙ m.at.router) m.turns.plays.runs.runs_on.legal

    played_now : AfterRounds (seat p m) said (suc r) (L p m) (m.old.refused.items ++ m.turns.plays.more)
    played_now = (K p m, m.old.refused.items, m.turns.plays.more, played_before, plays, refl)

    round : IsRoundOf r (K p m) (L p m)
    round = round_of (seat p m) said r (K p m) (L p m) m.old.refused.items m.turns.plays.more freely played_before plays

    passes : (o played' handed : Outlet) → IsReady r (K p m) o → ((entries : List Entry) → L p m ≡ entries ++ K p m → SaysAll (reverse entries) o played') → IsHandedOver played' handed → Passes r (K p m) (L p m) o played' handed
    passes o played' handed ready says handing = record {
      round = round;
      ready = ready;
      none_before = gathered_after_rounds codec (seat p m) said r (K p m) m.old.refused.items o.to played_before;
      none_after = gathered_after_rounds codec (seat p m) said (suc r) (L p m) (m.old.refused.items ++ m.turns.plays.more) o.to played_now;
      says = says;
      goes_on = goes_on p m;
      handing = handing;
    }

    -- the round is what was added
    added : L p m ≡ this_round (L p m) ++ K p m
    added = round_adds r (K p m) (L p m) round (rounds_end (seat p m) said r (K p m) m.old.refused.items played_before)

    round_is : this_round (L p m) ≡ (goes_on p m).0
    round_is = append_cancel_right (this_round (L p m)) (goes_on p m).0 (K p m) (sym added ∙ (goes_on p m).1)

    says_all : AllZip (SaysAll (reverse (goes_on p m).0)) m.old.outlets.items m.turns.played.outlets.items
    says_all = subst (λ (es : List Entry). AllZip (SaysAll (reverse es)) m.old.outlets.items m.turns.played.outlets.items) round_is m.turns.plays.tells

    -- any split of the trace is this one
    any_split : (o played' : Outlet) → SaysAll (reverse (goes_on p m).0) o played' → (entries : List Entry) → L p m ≡ entries ++ K p m → SaysAll (reverse entries) o played'
    any_split o played' says entries is =
        subst (λ (es : List Entry). SaysAll (reverse es) o played') (append_cancel_right (goes_on p m).0 entries (K p m) (sym (goes_on p m).1 ∙ is)) says

    ready_all : AllByRecursion (IsReady (suc r) (L p m)) m.new.outlets.items
    ready_all =
        each_third (IsReady r (K p m)) (IsReady (suc r) (L p m)) (SaysAll (reverse (goes_on p m).0)) IsHandedOver
        (λ o played' handed ready says handing. ready_next r (K p m) (L p m) o played' handed (passes o played' handed ready (any_split o played' says) handing))
        m.old.outlets.items m.turns.played.outlets.items m.new.outlets.items m.at.ready says_all m.turns.handed

    delivers_all : AllByRecursion (λ (o : Outlet). Delivers r (out codec (L p m) o.to) p (letters_of p o)) m.turns.played.outlets.items
    delivers_all =
        each_second (IsReady r (K p m)) (λ (o : Outlet). Delivers r (out codec (L p m) o.to) p (letters_of p o)) (SaysAll (reverse (goes_on p m).0)) IsHandedOver
        (λ o played' handed ready says handing. subst (λ (q : PeerNo). Delivers r (out codec (L p m) q) p (letters_of p played')) (sym says.to) (delivers r (K p m) (L p m) o played' handed (passes o played' handed ready (any_split o played' says) handing) p))
        m.old.outlets.items m.turns.played.outlets.items m.new.outlets.items m.at.ready says_all m.turns.handed

    to_all : tos m.turns.played.outlets.items ≡ neighbours plan p
    to_all = tos_zip (SaysAll (reverse (goes_on p m).0)) (λ o o' says. says.to) m.old.outlets.items m.turns.played.outlets.items says_all ∙ m.at.links

    number_is : m.turns.played.number ≡ p
    number_is = m.turns.plays.number ∙ m.at.number

    -- where it stands then
    at_next : IsAt plan (suc r) news p m.new
    at_next =
        record {
          number = ap (λ (x : Peer T). x.number) m.turns.rest ∙ number_is;
          agenda = ap (λ (x : Peer T). x.agenda) m.turns.rest ∙ m.turns.plays.agenda ∙ m.at.agenda;
          phase = ap (λ (x : Peer T). x.phase_ms) m.turns.rest ∙ m.turns.plays.phase ∙ m.at.phase;
          router = ap (λ (x : Peer T). x.router.peer) m.turns.rest ∙ m.turns.plays.runs.peer ∙ m.at.router;
          running = ap (λ (x : Peer T). x.router.is_stopped) m.turns.rest ∙ m.turns.plays.runs.runs_on.running;
          time = subst (λ (M : Entries). last_moment M ≤ r * plan.round_ms) (sym (new_trace p m)) m.turns.plays.runs.runs_on.time;
          legal = subst₂ (λ (M : Entries) (s : SeededState). LegalOn (exact seeded_word seeded_after) (peer_in plan p) (first_words plan p) [] M s) (sym (new_trace p m)) (sym (ap (λ (x : Peer T). x.words) m.turns.rest)) legal;
          played = subst₂ (λ (M : Entries) (lines : List RefusedLine). AfterRounds (seat_in plan p) said (suc r) M lines) (sym (new_trace p m)) (sym (ap (λ (x : Peer T). x.refused.items) m.turns.rest ∙ m.turns.plays.refused)) played_now;
          links = tos_zip IsHandedOver (λ o o' handing. handing.to) m.turns.played.outlets.items m.new.outlets.items m.turns.handed ∙ to_all;
          ready = subst (λ (M : Entries). AllByRecursion (IsReady (suc r) M) m.new.outlets.items) (sym (new_trace p m)) ready_all;
        }

  -- ---- what is on its way then

  arrive : (p : PeerNo) → p.0 < length plan.peers → (n : ℕ) (letters : List Letter) → n ≤ length plan.peers → GivenTo r now olds news mail p n letters → ArriveFrom plan.dials r news p n letters
  arrive p within zero letters few none = none
  arrive p within (suc n) letters few (earlier, gives, rest, turn, is) =
      let q : PeerNo = peer_no n in
      let low : q.0 < length plan.peers = omega (arith, few) in
      let (old, was, at) = at_number (IsAt plan r olds) plan q olds low before.each in
      let same : turn.old ≡ old = same_Some turn.old old (sym turn.was ∙ was) in
      let m : Moved q = record {
        old = old;
        new = turn.new;
        gives = gives;
        was = was;
        is = turn.is;
        at = at;
        turns = subst (λ (x : Peer T). Turns r now (list_at mail q.0) x turn.new gives) same turn.turns;
      } in
      (earlier, gives p, arrive p within n earlier (omega (arith, few)) rest, is, delivered_by p q within low m)
    where
      delivered_by : (p q : PeerNo) → p.0 < length plan.peers → (below : q.0 < length plan.peers) → (m : Moved q) → DeliversIf (are_joined plan.dials p q) r (said_so_far news p q) q (m.gives p)
      delivered_by p q within below m =
          by (are_joined plan.dials p q) refl
          (m.turns.given_is p ∙ ap (λ (s : PeerNo). given s m.turns.played.outlets.items p) (number_is q below m))
          (ap (λ (M : Entries). out codec M p) (sym (trace_is news q m.new m.is ∙ new_trace q m)))
        where
          by : (b : Bool) → are_joined plan.dials p q ≡ b → m.gives p ≡ given q m.turns.played.outlets.items p → out codec (L q m) p ≡ said_so_far news p q → DeliversIf b r (said_so_far news p q) q (m.gives p)
          by true joined mine says =
              let back : IsJoined plan q p = (within, joined_both plan.dials q p ∙ joined) in
              subst₂ (λ (w : Said) (ls : List Letter). Delivers r w q ls) says (sym mine)
              (given_once (λ (s : PeerNo) (ls : List Letter). Delivers r (out codec (L q m) s) q ls) q p m.turns.played.outlets.items
              (subst (StandsOnce p) (sym (to_all q below m)) (once_joined plan q p back)) (delivers_all q below m))
          by false apart mine says =
              mine ∙ given_none q p m.turns.played.outlets.items (subst (AllByRecursion (λ s. same_peer s p ≡ false)) (sym (to_all q below m)) (none_apart plan q p (joined_both plan.dials q p ∙ apart)))

  many : length news ≡ length plan.peers
  many = played.many ∙ as_many (IsAt plan r olds) plan olds before.each

  pub turned : AreAt plan (suc r) news next
  turned = record {
    each = zip_by_number (IsAt plan (suc r) news) plan news many (λ p new below is.
        let m = moved p below in subst (IsAt plan (suc r) news p) (same_Some m.new new (sym m.is ∙ is)) (at_next p below m));
    boxes = played.places ∙ before.boxes;
    letters = λ p below. arrive p below (length plan.peers) (list_at next p.0) (omega arith) (played.gives p);
  }

  -- each trace has grown by the round
  pub grown : HaveGrown (trace_at olds) (trace_at news)
  grown p = elim (cases_lt p.0 (length plan.peers)) [
    | inl below ↦
        let m = moved p below in
        let now_is : trace_at news p ≡ L p m = trace_is news p m.new m.is ∙ new_trace p m in
        now_is
        ∙ added p below m
        ∙ ap₂ (λ (M N : Entries). this_round M ++ N) (sym now_is) (sym (trace_is olds p m.old m.was))
    | inr above ↦ nobody olds news p (omega (arith, above, as_many (IsAt plan r olds) plan olds before.each)) (omega (arith, above, many))
  ]
