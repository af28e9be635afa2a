-- The peers of a run, one after the other.
use Rattle.std.proofs.Common.{◌≡◌, ◌≢◌, ◌≤◌, ◌<◌, ◌+◌, ◌*◌, ◌^◌, ◌⊎◌, ℕ, zero, suc, pred, Bool, true, false, List, [], ◌∷◌, ◌++◌, length, set, get_or, Some, inl, inr, refl, sym, ap, ap₂, subst, subst₂, ◌∙◌, arith, true≢false, eq-or-lt_of_le}
use Rattle.std.specs.Prelude.{slice_get, Vec}
use Rattle.std.specs.List.{AllByRecursion, AllZip}
use Rattle.std.specs.declared.alloc.Global.{Global}
use Rattle.std.proofs.lemmas.List.{length-set}
use Rattle.std.proofs.lemmas.Option.{get_or_from_slice_get}
use Rattle.gs_base.specs.declared.names.PeerNo.{PeerNo}
use Rattle.gs_base.specs.declared.names.Millis.{Millis}
use Rattle.gs_params.specs.Seeding.{seeded_after, seeded_word}
use Rattle.gs_plan.specs.declared.plan.Dial.{Dial}
use Rattle.gs_plan.specs.declared.plan.Plan.{Plan}
use Rattle.gs_plan.specs.Plans.{are_joined}
use Rattle.gs_wire.specs.Messages.{longest_body}
use Rattle.gs_wire.specs.Stream.{HasRead, Holding}
use Rattle.gs_wire.proofs.Readers.{read_nothing}
use Rattle.gs_rules.specs.Peers.{Peer as RulesPeer}
use Rattle.gs_rules.specs.Tables.{Entries, last_moment}
use Rattle.gs_rules.specs.Modes.{exact, free}
use Rattle.gs_rules.specs.Legal.{Legal, LegalOn}
use Rattle.gs_rules.proofs.Each.{each_weaker}
use Rattle.gs_rules.proofs.Legality.{exact_is_free, legal_weakly}
use Rattle.gs_router.specs.Router.{RouterView}
use Rattle.gs_seats.specs.ListsByPeer.{list_at}
use Rattle.gs_seats.specs.Rounds.{first_words, neighbours, numbers, peer_in, peer_no, phase_of}
use Rattle.gs_seats.proofs.ByNumber.{as_many, at_number, each_kept}
use Rattle.gs_seats.proofs.Joined.{IsJoined, neighbours_joined}
use Rattle.gs_player.specs.Playing.{IsRunning}
use Rattle.gs_player.specs.Words.{StandsAfter}
use Rattle.gs_player.proofs.RoundWords.{nothing_said}
use Rattle.gs_direct.specs.declared.letter.Letter.{Letter}
use Rattle.gs_direct.specs.declared.outlet.Outlet.{Outlet}
use Rattle.gs_direct.specs.declared.peer.Peer.{Peer}
use Rattle.gs_direct.specs.Letters.{LettersFit}
use Rattle.gs_direct.specs.Outlets.{IsNew, Within}
use Rattle.gs_direct.specs.Peers.{Closes, IsNewPeer}
use Rattle.gs_direct.specs.Runs.{AreAt, Arrive, ArriveFrom, ClosesAt, DeliversIf, GivenTo, HaveClosed, HavePlayed, IsAt, IsReady, IsRoomFor, Turns, TurnsAt, said_so_far}
use Rattle.gs_direct.proofs.Giving.{tos}

-- ---- the beginning

outlet_ready : (q : PeerNo) (o : Outlet) → IsNew q o → IsReady 0 [] o
outlet_ready q o is = record {
  is_open = is.is_open;
  none_gathered = is.gathered;
  none_out = is.rpcs;
  stands = subst (StandsAfter 0 []) (sym is.is_open) nothing_said;
  earlier = [];
  read = subst (λ (h : Holding). HasRead longest_body [] h []) (sym is.reader) (read_nothing longest_body);
  told = λ over. absurd (true≢false (sym over ∙ is.is_over));
}

outlets_ready : (qs : List PeerNo) (outlets : List Outlet) → AllZip IsNew qs outlets → AllByRecursion (IsReady 0 []) outlets
outlets_ready [] [] h = tt
outlets_ready (q ∷ qs) (o ∷ outlets) h = (outlet_ready q o h.0, outlets_ready qs outlets h.1)
outlets_ready [] (o ∷ outlets) h = absurd h
outlets_ready (q ∷ qs) [] h = absurd h

outlets_to : (qs : List PeerNo) (outlets : List Outlet) → AllZip IsNew qs outlets → tos outlets ≡ qs
outlets_to [] [] h = refl
outlets_to (q ∷ qs) (o ∷ outlets) h = ap₂ (λ (r : PeerNo) (rs : List PeerNo). r ∷ rs) h.0.to_is (outlets_to qs outlets h.1)
outlets_to [] (o ∷ outlets) h = absurd h
outlets_to (q ∷ qs) [] h = absurd h

one_begins : {T : Type 0} → (plan : Plan) (peers : List (Peer T)) (p : PeerNo) (peer : Peer T) → IsNewPeer plan p peer → IsAt plan 0 peers p peer
one_begins plan peers p peer is =
    let empty : peer.router.trace ≡ [] = ap (λ (v : RouterView). v.trace) is.router in
    record {
      number = is.number;
      agenda = is.agenda;
      phase = is.phase;
      router = ap (λ (v : RouterView). v.peer) is.router;
      running = ap (λ (v : RouterView). v.is_stopped) is.router;
      time = subst (λ (L : Entries). last_moment L ≤ 0 * plan.round_ms) (sym empty) (omega arith);
      legal = subst (λ (L : Entries). LegalOn (exact seeded_word seeded_after) (peer_in plan p) (first_words plan p) [] L peer.words) (sym empty) is.words;
      played = (empty, is.refused);
      links = outlets_to (neighbours plan p) peer.outlets.items is.outlets;
      ready = subst (λ (L : Entries). AllByRecursion (IsReady 0 L) peer.outlets.items) (sym empty) (outlets_ready (neighbours plan p) peer.outlets.items is.outlets);
    }

pub all_begin : {T : Type 0} → (plan : Plan) (peers : List (Peer T)) (mail : List (Vec Letter Global)) → AllZip (IsNewPeer plan) (numbers plan) peers → IsRoomFor plan mail → AreAt plan 0 peers mail
all_begin plan peers mail new room = record {
  each = each_kept (IsNewPeer plan) (IsAt plan 0 peers) (λ p peer is. one_begins plan peers p peer is) (numbers plan) peers new;
  boxes = room.0;
  letters = λ p below. room.1 p.0;
}

-- ---- lists of peers

set_same : {T : Type 0} → (peers : List (Peer T)) (n : ℕ) (peer : Peer T) → n < length peers → slice_get (set peers n peer) n ≡ Some peer
set_same [] n peer below = absurd (omega (arith, below))
set_same (x ∷ peers) zero peer below = refl
set_same (x ∷ peers) (suc n) peer below = set_same peers n peer (omega (arith, below))

set_other : {T : Type 0} → (peers : List (Peer T)) (n k : ℕ) (peer : Peer T) → k ≢ n → slice_get (set peers n peer) k ≡ slice_get peers k
set_other [] n k peer apart = refl
set_other (x ∷ peers) zero zero peer apart = absurd (apart refl)
set_other (x ∷ peers) zero (suc k) peer apart = refl
set_other (x ∷ peers) (suc n) zero peer apart = refl
set_other (x ∷ peers) (suc n) (suc k) peer apart = set_other peers n k peer (λ e. apart (ap suc e))

pub above_other : (n k : ℕ) → n + 1 ≤ k → k ≢ n
above_other n k above e = omega (arith, above, e)

below_other : (n k : ℕ) → k < n → k ≢ n
below_other n k below e = omega (arith, below, e)

no_more : (n k : ℕ) → k < n + 1 → k ≤ n
no_more n k lower = omega (arith, lower)

one_more : (n : ℕ) → suc n ≡ n + 1
one_more n = omega arith

-- no list stands past the last
pub list_past : (mail : List (Vec Letter Global)) (n : ℕ) → length mail ≤ n → list_at mail n ≡ []
list_past [] n past = refl
list_past (x ∷ mail) zero past = absurd (omega (arith, past))
list_past (x ∷ mail) (suc n) past = list_past mail n (omega (arith, past))

lt_or_le : (a b : ℕ) → (a < b) ⊎ (b ≤ a)
lt_or_le a zero = inr (omega arith)
lt_or_le zero (suc b) = inl (omega arith)
lt_or_le (suc a) (suc b) = elim (lt_or_le a b) [
  | inl lower ↦ inl (omega (arith, lower))
  | inr past ↦ inr (omega (arith, past))
]

-- where each of the first `count` was taken, nothing is left
pub all_taken : (mail : List (Vec Letter Global)) (count n : ℕ) → length mail ≡ count → ((k : ℕ) → k < count → list_at mail k ≡ []) → list_at mail n ≡ []
all_taken mail count n many taken = elim (lt_or_le n count) [
  | inl lower ↦ taken n lower
  | inr past ↦ list_past mail n (omega (arith, many, past))
]

-- ---- what each is given

arrived_fit : {T : Type 0} → (dials : List Dial) (r : ℕ) (peers : List (Peer T)) (p : PeerNo) (n : ℕ) (letters : List Letter) → ArriveFrom dials r peers p n letters → LettersFit letters
arrived_fit dials r peers p zero letters none = subst LettersFit (sym none) tt
arrived_fit dials r peers p (suc n) letters (before, last, earlier, is, mine) =
    subst LettersFit (sym is) (both before last (arrived_fit dials r peers p n before earlier) (by (are_joined dials p (peer_no n)) mine))
  where
    both : (xs ys : List Letter) → LettersFit xs → LettersFit ys → LettersFit (xs ++ ys)
    both [] ys h k = k
    both (x ∷ xs) ys h k = (h.0, both xs ys h.1 k)

    by : (b : Bool) → DeliversIf b r (said_so_far peers p (peer_no n)) (peer_no n) last → LettersFit last
    by true delivers = delivers.fit
    by false none = subst LettersFit (sym none) tt

letters_fit : {T : Type 0} → (plan : Plan) (r : ℕ) (peers : List (Peer T)) (p : PeerNo) (letters : List Letter) → Arrive plan r peers p letters → LettersFit letters
letters_fit plan zero peers p letters none = subst LettersFit (sym none) tt
letters_fit plan (suc r) peers p letters arrive = arrived_fit plan.dials r peers p (length plan.peers) letters arrive

-- the outlets are to peers of the plan
within_all : (count : ℕ) (outlets : List Outlet) → AllByRecursion (λ (q : PeerNo). q.0 < count) (tos outlets) → AllByRecursion (Within count) outlets
within_all count [] h = tt
within_all count (o ∷ outlets) h = (h.0, within_all count outlets h.1)

runs_at : {T : Type 0} → (plan : Plan) (r : ℕ) (now : Millis) (peers : List (Peer T)) (p : PeerNo) (peer : Peer T) → pred r * plan.round_ms ≤ now.0 → IsAt plan r peers p peer → IsRunning now peer.router
runs_at plan r now peers p peer late at = record {
  running = at.running;
  time = (let time = at.time in omega (arith, late, time));
  legal = subst (λ (x : RulesPeer). Legal x peer.router.trace) (sym at.router) (legal_weakly (exact seeded_word seeded_after) free (λ u. tt) (exact_is_free seeded_word seeded_after) (peer_in plan p) (first_words plan p) peer.words [] peer.router.trace at.legal);
}

-- A peer that is next.
pub record IsNext {T : Type 0} (plan : Plan) (r : ℕ) (olds : List (Peer T)) (mail : List (Vec Letter Global)) (news : List (Peer T)) (n : ℕ) : Type 0 where
  pub old : Peer T
  pub was : slice_get olds n ≡ Some old
  pub is : slice_get news n ≡ Some old
  pub at : IsAt plan r olds (peer_no n) old
  pub fit : LettersFit (list_at mail n)

pub next_of : {T : Type 0} → (plan : Plan) (r : ℕ) (olds news : List (Peer T)) (mail : List (Vec Letter Global)) (n : ℕ) → AreAt plan r olds mail → n < length plan.peers → slice_get news n ≡ slice_get olds n → IsNext plan r olds mail news n
next_of plan r olds news mail n before below same =
    let (old, was, at) = at_number (IsAt plan r olds) plan (peer_no n) olds below before.each in
    record { old = old; was = was; is = same ∙ was; at = at; fit = letters_fit plan r olds (peer_no n) (list_at mail n) (before.letters (peer_no n) below) }

module _ {T : Type 0} (plan : Plan) (r : ℕ) (olds news : List (Peer T)) (mail : List (Vec Letter Global)) (n : ℕ) (next : IsNext plan r olds mail news n) where
  pub there : (d : Peer T) (index : ℕ) → index ≡ n → get_or news index d ≡ next.old
  there d index same = ap (λ (k : ℕ). get_or news k d) same ∙ get_or_from_slice_get news n next.old d next.is

  pub next_runs : (now : Millis) (d : Peer T) (index : ℕ) → index ≡ n → pred r * plan.round_ms ≤ now.0 → IsRunning now (get_or news index d).router
  next_runs now d index same late = subst (λ (x : Peer T). IsRunning now x.router) (sym (there d index same)) (runs_at plan r now olds (peer_no n) next.old late next.at)

  pub next_small : (now : Millis) (d : Peer T) (index : ℕ) → index ≡ n → now.0 + phase_of plan (peer_no n) < 2 ^ 64 → now.0 + (get_or news index d).phase_ms < 2 ^ 64
  next_small now d index same small =
      subst (λ (x : Peer T). now.0 + x.phase_ms < 2 ^ 64) (sym (there d index same)) (subst (λ (k : ℕ). now.0 + k < 2 ^ 64) (sym next.at.phase) small)

  pub next_within : (count : ℕ) (d : Peer T) (index : ℕ) → index ≡ n → count ≡ length plan.peers → AllByRecursion (Within count) (get_or news index d).outlets.items
  next_within count d index same many =
      subst (λ (x : Peer T). AllByRecursion (Within count) x.outlets.items) (sym (there d index same))
      (within_all count next.old.outlets.items
      (subst (AllByRecursion (λ (q : PeerNo). q.0 < count)) (sym next.at.links)
      (each_weaker (IsJoined plan (peer_no n)) (λ (q : PeerNo). q.0 < count) (λ q joined. subst (λ (k : ℕ). q.0 < k) (sym many) joined.0) (neighbours plan (peer_no n)) (neighbours_joined plan (peer_no n)))))

-- ---- a round, peer by peer

pub none_played : {T : Type 0} → (plan : Plan) (r : ℕ) (now : Millis) (olds : List (Peer T)) (mail next : List (Vec Letter Global)) → AreAt plan r olds mail → IsRoomFor plan next → HavePlayed r now olds mail 0 olds mail next
none_played plan r now olds mail next before room = record {
  many = refl;
  boxes = refl;
  places = room.0 ∙ sym before.boxes;
  left = λ k above. refl;
  waits = λ k above. refl;
  taken = λ k below. absurd (omega (arith, below));
  gives = λ p. room.1 p.0;
}

turn_stays : {T : Type 0} → (r : ℕ) (now : Millis) (olds news news' : List (Peer T)) (mail : List (Vec Letter Global)) (k : ℕ) (gives : PeerNo → List Letter) → slice_get news' k ≡ slice_get news k → TurnsAt r now olds news mail k gives → TurnsAt r now olds news' mail k gives
turn_stays r now olds news news' mail k gives same t = record { old = t.old; new = t.new; was = t.was; is = same ∙ t.is; turns = t.turns }

given_stays : {T : Type 0} → (r : ℕ) (now : Millis) (olds news news' : List (Peer T)) (mail : List (Vec Letter Global)) (p : PeerNo) (n : ℕ) (letters : List Letter) → ((k : ℕ) → k < n → slice_get news' k ≡ slice_get news k) → GivenTo r now olds news mail p n letters → GivenTo r now olds news' mail p n letters
given_stays r now olds news news' mail p zero letters same none = none
given_stays r now olds news news' mail p (suc n) letters same (before, gives, rest, turn, is) =
    (before, gives, given_stays r now olds news news' mail p n before (λ k below. same k (omega (arith, below))) rest, turn_stays r now olds news news' mail n gives (same n (omega arith)) turn, is)

-- what one more peer has done and given
pub record PlaysNext {T : Type 0} (r : ℕ) (now : Millis) (letters : List Letter) (old new : Peer T) (before after : List (Vec Letter Global)) : Type 0 where
  pub gives : PeerNo → List Letter
  pub turns : Turns r now letters old new gives
  pub adds : (p : PeerNo) → list_at after p.0 ≡ list_at before p.0 ++ gives p

pub one_played : {T : Type 0} → (plan : Plan) (r : ℕ) (now : Millis) (olds news : List (Peer T)) (mail mail' next mail'' next' : List (Vec Letter Global)) (n index : ℕ) (d new : Peer T)
    → AreAt plan r olds mail
    → HavePlayed r now olds mail n news mail' next
    → n < length plan.peers
    → index ≡ n
    → PlaysNext r now (list_at mail' n) (get_or news index d) new next next'
    → length next' ≡ length next
    → length mail'' ≡ length mail'
    → list_at mail'' n ≡ []
    → ((k : ℕ) → k ≢ n → list_at mail'' k ≡ list_at mail' k)
    → HavePlayed r now olds mail (n + 1) (set news index new) mail'' next'
one_played {T} plan r now olds news mail mail' next mail'' next' n index d new before h below same plays places boxes taken others =
    let one = next_of plan r olds news mail n before below (h.left n (omega arith)) in
    let many : length olds ≡ length plan.peers = as_many (IsAt plan r olds) plan olds before.each in
    let low : n < length news = omega (arith, below, many, h.many) in
    let there_is : slice_get (set news index new) n ≡ Some new = ap (λ (i : ℕ). slice_get (set news i new) n) same ∙ set_same news n new low in
    let turn : TurnsAt r now olds (set news index new) mail n plays.gives = record {
      old = one.old;
      new = new;
      was = one.was;
      is = there_is;
      turns = subst₂ (λ (letters : List Letter) (x : Peer T). Turns r now letters x new plays.gives) (h.waits n (omega arith)) (there plan r olds news mail n one d index same) plays.turns;
    } in
    let rest : (k : ℕ) → k ≢ n → slice_get (set news index new) k ≡ slice_get news k = λ k apart. ap (λ (i : ℕ). slice_get (set news i new) k) same ∙ set_other news n k new apart in
    record {
      many = length-set news index new ∙ h.many;
      boxes = boxes ∙ h.boxes;
      places = places ∙ h.places;
      left = λ k above. rest k (above_other n k above) ∙ h.left k (omega (arith, above));
      waits = λ k above. others k (above_other n k above) ∙ h.waits k (omega (arith, above));
      taken = λ k lower. by_place k lower;
      gives = λ p. subst (λ (m : ℕ). GivenTo r now olds (set news index new) mail p m (list_at next' p.0)) (one_more n)
          (list_at next p.0, plays.gives, given_stays r now olds news (set news index new) mail p n (list_at next p.0) (λ k lower. rest k (below_other n k lower)) (h.gives p), turn, plays.adds p);
    }
  where
    by_place : (k : ℕ) → k < n + 1 → list_at mail'' k ≡ []
    by_place k lower = elim (eq-or-lt_of_le (no_more n k lower)) [
      | inl it ↦ ap (list_at mail'') it ∙ taken
      | inr less ↦ others k (below_other n k less) ∙ h.taken k less
    ]

-- ---- the end, peer by peer

closed_stays : {T : Type 0} → (now : Millis) (olds news news' : List (Peer T)) (mail : List (Vec Letter Global)) (k : ℕ) → slice_get news' k ≡ slice_get news k → ClosesAt now olds mail k news → ClosesAt now olds mail k news'
closed_stays now olds news news' mail k same c = record { old = c.old; new = c.new; was = c.was; is = same ∙ c.is; closes_so = c.closes_so }

pub one_closed : {T : Type 0} → (plan : Plan) (r : ℕ) (now : Millis) (olds news : List (Peer T)) (mail : List (Vec Letter Global)) (letters : List Letter) (n index : ℕ) (d new : Peer T)
    → AreAt plan r olds mail
    → HaveClosed now olds mail n news
    → n < length plan.peers
    → index ≡ n
    → letters ≡ list_at mail n
    → Closes now letters (get_or news index d) new
    → HaveClosed now olds mail (n + 1) (set news index new)
one_closed {T} plan r now olds news mail letters n index d new before h below same mine closes =
    let one = next_of plan r olds news mail n before below (h.left n (omega arith)) in
    let many : length olds ≡ length plan.peers = as_many (IsAt plan r olds) plan olds before.each in
    let low : n < length news = omega (arith, below, many, h.many) in
    let turn : ClosesAt now olds mail n (set news index new) = record {
      old = one.old;
      new = new;
      was = one.was;
      is = ap (λ (i : ℕ). slice_get (set news i new) n) same ∙ set_same news n new low;
      closes_so = subst₂ (λ (ls : List Letter) (x : Peer T). Closes now ls x new) mine (there plan r olds news mail n one d index same) closes;
    } in
    let rest : (k : ℕ) → k ≢ n → slice_get (set news index new) k ≡ slice_get news k = λ k apart. ap (λ (i : ℕ). slice_get (set news i new) k) same ∙ set_other news n k new apart in
    record {
      many = length-set news index new ∙ h.many;
      left = λ k above. rest k (above_other n k above) ∙ h.left k (omega (arith, above));
      done = λ k lower. by_place turn rest k lower;
    }
  where
    by_place : ClosesAt now olds mail n (set news index new) → ((k : ℕ) → k ≢ n → slice_get (set news index new) k ≡ slice_get news k) → (k : ℕ) → k < n + 1 → ClosesAt now olds mail k (set news index new)
    by_place turn rest k lower = elim (eq-or-lt_of_le (no_more n k lower)) [
      | inl it ↦ subst (λ (i : ℕ). ClosesAt now olds mail i (set news index new)) (sym it) turn
      | inr less ↦ closed_stays now olds news (set news index new) mail k (rest k (below_other n k less)) (h.done k less)
    ]
