-- A peer that keeps the rounds has handled what its neighbours said.
use Rattle.std.proofs.Common.{◌≡◌, ℕ, zero, suc, Bool, true, false, cond, if◌then◌else◌, List, [], ◌∷◌, ◌++◌, map, filter, Option, Some, None, ◌⊎◌, inl, inr, refl, sym, ap, ap₂, subst, ◌∙◌, append_assoc, append-nil, arith, eq-eqb}
use Rattle.std.specs.List.{flat_map, AllZip, AllByRecursion, IsDistinct}
use Rattle.std.proofs.lemmas.Cmp.{nat_eq_equiv}
use Rattle.std.proofs.lemmas.Grind.{flat_map-append}
use Rattle.std.proofs.lemmas.Map.Keys.{IsDistinct-head, IsDistinct-tail}
use Rattle.gs_base.specs.declared.names.PeerNo.{PeerNo}
use Rattle.gs_base.specs.declared.names.Millis.{Millis}
use Rattle.gs_base.specs.declared.rpc.Rpc.{Rpc}
use Rattle.gs_base.specs.Names.{same_peer}
use Rattle.gs_params.specs.Picks.{IsAscending}
use Rattle.gs_plan.specs.declared.plan.Line.{Line}
use Rattle.gs_plan.specs.declared.plan.Act.{Act}
use Rattle.gs_params.proofs.Picking.{distinct_from_ascending}
use Rattle.gs_wire.specs.declared.frames.End.TheVariants.{Waits}
use Rattle.gs_wire.specs.Messages.{longest_body}
use Rattle.gs_wire.proofs.FrameLists.{one_stream}
use Rattle.gs_rules.specs.declared.event.Event.{Event}
use Rattle.gs_rules.specs.declared.event.Event.TheVariants.{Heard, Late, Part, Step, Lost, Own}
use Rattle.gs_rules.specs.declared.event.Loss.TheVariants.{Gone, Fault}
use Rattle.gs_rules.specs.declared.trace.Entry.{Entry}
use Rattle.gs_rules.specs.declared.refusal.Refusal.{Refusal}
use Rattle.gs_rules.specs.declared.refusal.RefusedLine.{RefusedLine}
use Rattle.gs_rules.specs.Peers.{Peer, links_of}
use Rattle.gs_rules.specs.Tables.{Entries, up}
use Rattle.gs_rules.specs.Legal.{Legal, ArePayments, Begins, Opens, Comes}
use Rattle.gs_rules.specs.Refusals.{refusal}
use Rattle.gs_rules.specs.Saying.{Said, bytes_of, handled_by, handled}
use Rattle.gs_rules.specs.Hearing.{Spell, Inbound, IsBetween, ComesIn, bytes_before}
use Rattle.gs_rules.specs.Rounds.{Seat, Phase, Playing, Closing, Todo, Hear, HearFault, HearGone, Obey, DecayCounters, Beat, EndRound, Stop, agenda, beats_in, decays_in, is_due, ending, hears, hears_of, is_at, is_broken, lines_at, moment_of, unless_refused, opening, Does, ComesAt, Plays, PlaysInPart, AfterRounds, KeepsRounds, clock_of}
use Rattle.gs_rules.proofs.Owed.{IsOwed, due_is_owed}
use Rattle.gs_rules.proofs.Legality.{legal_newest}
use Rattle.gs_rules.proofs.Deliveries.{legal_before}

-- ---- what is owed

-- each payment comes only where it is owed
pub payments_are_owed : (p : Peer) (at : Millis) (L : Entries) (paid : List Entry) → ArePayments p at L paid → Legal p (paid ++ L) → AllByRecursion (λ (e : Entry). IsOwed e.event) paid
payments_are_owed p at L [] payments legal = tt
payments_are_owed p at L (e ∷ paid) (is, some, earlier) legal =
    (due_is_owed p (paid ++ L) e.at.0 e.event some (legal_newest p e (paid ++ L) legal).next, payments_are_owed p at L paid earlier legal.1)

-- ---- what was done before

-- the later trace goes on after the earlier one
abbrev pub GoesOn : Entries → Entries → Type 0
GoesOn K L = (entries : List Entry) × (L ≡ entries ++ K)

pub legal_then_before : (p : Peer) (K L : Entries) → GoesOn K L → Legal p L → Legal p K
legal_then_before p K L goes_on legal = legal_before p goes_on.0 K (subst (Legal p) goes_on.1 legal)

begun_goes_on : (p : Peer) (at : Millis) (event : Event) (K L : Entries) → Begins p at event K L → GoesOn K L
begun_goes_on p at event K L begun = (begun.paid ++ begun.first ∷ [], begun.entries ∙ sym (append_assoc begun.paid (begun.first ∷ []) K))

comes_on : (p : Peer) (at : Millis) (event : Option Event) (K L : Entries) → Comes p at event K L → GoesOn K L
comes_on p at None K L h = ([], h)
comes_on p at (Some event) K L h = begun_goes_on p at event K L h.begun

goes_further : (K M L : Entries) → GoesOn K M → GoesOn M L → GoesOn K L
goes_further K M L h k = (k.0 ++ h.0, k.1 ∙ ap (λ (N : Entries). k.0 ++ N) h.1 ∙ sym (append_assoc k.0 h.0 K))

pub does_on : (p : Peer) (at : Millis) (todos : List Todo) (K L : Entries) (refused : List RefusedLine) → Does p at todos K L refused → GoesOn K L
does_on p at [] K L refused h = ([], h.0)
does_on p at (todo ∷ todos) K L refused (M, later, comes, does, is) =
    goes_further K M L (comes_on p at (opening p K at todo) K M comes) (does_on p at todos M L later does)

-- ---- what is done says what is handled

-- the RPC of q that there is to hear
abbrev rpc_of : PeerNo → Todo → List Rpc
rpc_of q (Hear r rpc) = if same_peer r q then rpc ∷ [] else []
rpc_of q other = []

-- the RPC of q that an event handles, where it comes
abbrev handled_if : PeerNo → Option Event → List Rpc
handled_if q None = []
handled_if q (Some event) = handled_by q event

owed_handles : (q : PeerNo) (event : Event) → IsOwed event → handled_by q event ≡ []
owed_handles q (Part r part) h = refl
owed_handles q (Step step) h = refl
owed_handles q other h = absurd h

paid_handle : (q : PeerNo) (L : Entries) (paid : List Entry) → AllByRecursion (λ (e : Entry). IsOwed e.event) paid → handled (paid ++ L) q ≡ handled L q
paid_handle q L [] h = refl
paid_handle q L (e ∷ paid) h = ap₂ (λ (xs ys : List Rpc). xs ++ ys) (paid_handle q L paid h.1) (owed_handles q e.event h.0) ∙ append-nil (handled L q)

opens_handle : (p : Peer) (q : PeerNo) (at : Millis) (event : Event) (K L : Entries) → Opens p at event K L → Legal p L → handled L q ≡ handled K q ++ handled_by q event
opens_handle p q at event K L h legal =
    let b = h.begun in
    ap (λ (M : Entries). handled M q) b.entries
    ∙ paid_handle q (b.first ∷ K) b.paid (payments_are_owed p at (b.first ∷ K) b.paid b.payments (subst (Legal p) b.entries legal))
    ∙ ap (λ (e : Event). handled K q ++ handled_by q e) b.opened

comes_handle : (p : Peer) (q : PeerNo) (at : Millis) (event : Option Event) (K L : Entries) → Comes p at event K L → Legal p L → handled L q ≡ handled K q ++ handled_if q event
comes_handle p q at None K L h legal = ap (λ (M : Entries). handled M q) h ∙ sym (append-nil (handled K q))
comes_handle p q at (Some event) K L h legal = opens_handle p q at event K L h legal

either_way : (q r : PeerNo) (rpc : Rpc) (is_up : Bool) → handled_by q (if is_up then Heard r rpc else Late r rpc) ≡ rpc_of q (Hear r rpc)
either_way q r rpc true = refl
either_way q r rpc false = refl

lost_handles : (q : PeerNo) (event : Event) (is_up : Bool) → handled_by q event ≡ [] → handled_if q (if is_up then Some event else None) ≡ []
lost_handles q event true none = none
lost_handles q event false none = refl

line_handles : (q : PeerNo) (what : Act) (why : Option Refusal) → handled_if q (unless_refused (Own what) why) ≡ []
line_handles q what (Some why) = refl
line_handles q what None = refl

opening_handles : (p : Peer) (q : PeerNo) (K : Entries) (at : Millis) (todo : Todo) → handled_if q (opening p K at todo) ≡ rpc_of q todo
opening_handles p q K at (Hear r rpc) = either_way q r rpc (up K r)
opening_handles p q K at (HearFault r) = lost_handles q (Lost r Fault) (up K r) refl
opening_handles p q K at (HearGone r) = lost_handles q (Lost r Gone) (up K r) refl
opening_handles p q K at (Obey place what) = line_handles q what (refusal p K at.0 (Own what))
opening_handles p q K at DecayCounters = refl
opening_handles p q K at Beat = refl
opening_handles p q K at (EndRound r) = refl
opening_handles p q K at Stop = refl

pub does_handle : (p : Peer) (q : PeerNo) (at : Millis) (todos : List Todo) (K L : Entries) (refused : List RefusedLine) → Does p at todos K L refused → Legal p L → handled L q ≡ handled K q ++ flat_map (rpc_of q) todos
does_handle p q at [] K L refused h legal = ap (λ (M : Entries). handled M q) h.0 ∙ sym (append-nil (handled K q))
does_handle p q at (todo ∷ todos) K L refused (M, later, comes, does, is) legal =
    let before : Legal p M = legal_then_before p M L (does_on p at todos M L later does) legal in
    does_handle p q at todos M L later does legal
    ∙ ap (λ (xs : List Rpc). xs ++ flat_map (rpc_of q) todos) (comes_handle p q at (opening p K at todo) K M comes before ∙ ap (λ (xs : List Rpc). handled K q ++ xs) (opening_handles p q K at todo))
    ∙ append_assoc (handled K q) (rpc_of q todo) (flat_map (rpc_of q) todos)

-- ---- the neighbours are apart

-- q stands in the list, and once
abbrev pub StandsOnce : PeerNo → List PeerNo → Type 0
StandsOnce q [] = ⊥
StandsOnce q (r ∷ rs) = ((r ≡ q) × AllByRecursion (λ s. same_peer s q ≡ false) rs) ⊎ ((same_peer r q ≡ false) × StandsOnce q rs)

turned : (q : PeerNo) (rs : List PeerNo) → AllByRecursion (λ (s : PeerNo). same_peer q s ≡ false) rs → AllByRecursion (λ (s : PeerNo). same_peer s q ≡ false) rs
turned q [] h = tt
turned q (r ∷ rs) h = (nat_eq_equiv.symm r.0 q.0 ∙ h.0, turned q rs h.1)

once_after : (q : PeerNo) (qs rs : List PeerNo) → AllByRecursion (λ (r : PeerNo). same_peer q r ≡ false) rs → AllByRecursion (λ r. StandsOnce r qs) rs → AllByRecursion (λ r. StandsOnce r (q ∷ qs)) rs
once_after q qs [] h k = tt
once_after q qs (r ∷ rs) h k = (inr (h.0, k.0), once_after q qs rs h.1 k.1)

pub distinct_once : (qs : List PeerNo) → IsDistinct same_peer qs → AllByRecursion (λ q. StandsOnce q qs) qs
distinct_once [] h = tt
distinct_once (q ∷ qs) h =
    let apart = IsDistinct-head same_peer q qs h in
    (inl (refl, turned q qs apart), once_after q qs qs apart (distinct_once qs (IsDistinct-tail same_peer q qs h)))

-- ---- what there is to hear of one neighbour

heard_own : (q : PeerNo) (rpcs : List Rpc) → flat_map (rpc_of q) (map (Hear q) rpcs) ≡ rpcs
heard_own q [] = refl
heard_own q (rpc ∷ rpcs) = ap₂ (λ (b : Bool) (xs : List Rpc). (if b then rpc ∷ [] else []) ++ xs) (eq-eqb q.0 q.0 refl) (heard_own q rpcs)

heard_other : (q r : PeerNo) (rpcs : List Rpc) → same_peer r q ≡ false → flat_map (rpc_of q) (map (Hear r) rpcs) ≡ []
heard_other q r [] apart = refl
heard_other q r (rpc ∷ rpcs) apart = ap₂ (λ (b : Bool) (xs : List Rpc). (if b then rpc ∷ [] else []) ++ xs) apart (heard_other q r rpcs apart)

-- how it ends is no RPC
ending_quiet : (q r : PeerNo) (x : Inbound) → flat_map (rpc_of q) (ending r x) ≡ []
ending_quiet q r x = by (is_broken x) x.closes
  where
    by : (broken closed : Bool) → flat_map (rpc_of q) (if broken then HearFault r ∷ [] else if closed then HearGone r ∷ [] else []) ≡ []
    by true closed = refl
    by false true = refl
    by false false = refl

hears_rpcs : (q r : PeerNo) (x : Inbound) → flat_map (rpc_of q) (hears_of r x) ≡ flat_map (rpc_of q) (map (Hear r) x.rpcs)
hears_rpcs q r x =
    flat_map-append (rpc_of q) (map (Hear r) x.rpcs) (ending r x)
    ∙ ap (λ (xs : List Rpc). flat_map (rpc_of q) (map (Hear r) x.rpcs) ++ xs) (ending_quiet q r x)
    ∙ append-nil (flat_map (rpc_of q) (map (Hear r) x.rpcs))

heard_first : (q r : PeerNo) (x : Inbound) (rs : List PeerNo) (xs : List Inbound) → flat_map (rpc_of q) (hears (r ∷ rs) (x ∷ xs)) ≡ flat_map (rpc_of q) (map (Hear r) x.rpcs) ++ flat_map (rpc_of q) (hears rs xs)
heard_first q r x rs xs =
    flat_map-append (rpc_of q) (hears_of r x) (hears rs xs) ∙ ap (λ (ys : List Rpc). ys ++ flat_map (rpc_of q) (hears rs xs)) (hears_rpcs q r x)

heard_none : (q : PeerNo) (rs : List PeerNo) (xs : List Inbound) → AllByRecursion (λ r. same_peer r q ≡ false) rs → flat_map (rpc_of q) (hears rs xs) ≡ []
heard_none q [] xs apart = refl
heard_none q (r ∷ rs) [] apart = refl
heard_none q (r ∷ rs) (x ∷ xs) apart = heard_first q r x rs xs ∙ ap₂ (λ (ys zs : List Rpc). ys ++ zs) (heard_other q r x.rpcs apart.0) (heard_none q rs xs apart.1)

-- what stands at q's place
record HeardOnce (R : PeerNo → Inbound → Type 0) (q : PeerNo) (qs : List PeerNo) (xs : List Inbound) : Type 0 where
  inbound : Inbound
  was_said : R q inbound
  is : flat_map (rpc_of q) (hears qs xs) ≡ inbound.rpcs

heard_once : (R : PeerNo → Inbound → Type 0) (q : PeerNo) (qs : List PeerNo) (xs : List Inbound) → StandsOnce q qs → AllZip R qs xs → HeardOnce R q qs xs
heard_once R q [] xs once said = absurd once
heard_once R q (r ∷ rs) [] once said = absurd said
heard_once R q (r ∷ rs) (x ∷ xs) (inl (same, apart)) said = record {
  inbound = x;
  was_said = subst (λ (s : PeerNo). R s x) same said.0;
  is = heard_first q r x rs xs
      ∙ ap₂ (λ (ys zs : List Rpc). ys ++ zs) (ap (λ (s : PeerNo). flat_map (rpc_of q) (map (Hear s) x.rpcs)) same ∙ heard_own q x.rpcs) (heard_none q rs xs apart)
      ∙ append-nil x.rpcs;
}
heard_once R q (r ∷ rs) (x ∷ xs) (inr (other, once)) said =
    let later = heard_once R q rs xs once said.1 in
    record {
      inbound = later.inbound;
      was_said = later.was_said;
      is = heard_first q r x rs xs ∙ ap₂ (λ (ys zs : List Rpc). ys ++ zs) (heard_other q r x.rpcs other) later.is;
    }

-- the lines of a round are nothing to hear
lines_quiet : (q : PeerNo) (r : ℕ) (lines : List (ℕ × Line)) → flat_map (rpc_of q) (map (λ x. Obey x.0 x.1.what) (filter (is_at r) lines)) ≡ []
lines_quiet q r [] = refl
lines_quiet q r (x ∷ xs) = either (is_at r x) (lines_quiet q r xs)
  where
    either : (b : Bool) → flat_map (rpc_of q) (map (λ x. Obey x.0 x.1.what) (filter (is_at r) xs)) ≡ [] → flat_map (rpc_of q) (map (λ x. Obey x.0 x.1.what) (cond b (x ∷ filter (is_at r) xs) (filter (is_at r) xs))) ≡ []
    either true h = h
    either false h = h

-- a step of decay is nothing to hear
decays_quiet : (q : PeerNo) (p : Peer) (r : ℕ) (at : Millis) → flat_map (rpc_of q) (decays_in p r at) ≡ []
decays_quiet q p r at = by (is_due p.params.timing.decay_ms r at)
  where
    by : (due : Bool) → flat_map (rpc_of q) (if due then DecayCounters ∷ [] else []) ≡ []
    by true = refl
    by false = refl

-- a heartbeat is nothing to hear
beats_quiet : (q : PeerNo) (p : Peer) (r : ℕ) (at : Millis) → flat_map (rpc_of q) (beats_in p r at) ≡ []
beats_quiet q p r at = by (is_due p.params.timing.heartbeat_ms r at)
  where
    by : (due : Bool) → flat_map (rpc_of q) (if due then Beat ∷ [] else []) ≡ []
    by true = refl
    by false = refl

phase_hears : (seat : Seat) (phase : Phase) (q : PeerNo) (xs : List Inbound) → flat_map (rpc_of q) (agenda seat phase xs) ≡ flat_map (rpc_of q) (hears (links_of seat.peer) xs)
phase_hears seat (Playing r) q xs =
    let all : List Todo = hears (links_of seat.peer) xs in
    let decay : List Todo = decays_in seat.peer r (clock_of seat r) in
    let beat : List Todo = beats_in seat.peer r (clock_of seat r) in
    let last : flat_map (rpc_of q) (beat ++ EndRound r ∷ []) ≡ [] =
    flat_map-append (rpc_of q) beat (EndRound r ∷ []) ∙ ap (λ (xs : List Rpc). xs ++ []) (beats_quiet q seat.peer r (clock_of seat r)) in
    let timed : flat_map (rpc_of q) (decay ++ (beat ++ EndRound r ∷ [])) ≡ [] =
    flat_map-append (rpc_of q) decay (beat ++ EndRound r ∷ [])
    ∙ ap₂ (λ (xs ys : List Rpc). xs ++ ys) (decays_quiet q seat.peer r (clock_of seat r)) last in
    let own : flat_map (rpc_of q) (lines_at seat r ++ (decay ++ (beat ++ EndRound r ∷ []))) ≡ [] =
    flat_map-append (rpc_of q) (lines_at seat r) (decay ++ (beat ++ EndRound r ∷ []))
    ∙ ap₂ (λ (xs ys : List Rpc). xs ++ ys) (lines_quiet q r seat.lines) timed in
    flat_map-append (rpc_of q) all (lines_at seat r ++ (decay ++ (beat ++ EndRound r ∷ [])))
    ∙ ap (λ (ys : List Rpc). flat_map (rpc_of q) all ++ ys) own
    ∙ append-nil (flat_map (rpc_of q) all)
phase_hears seat Closing q xs = refl

-- ---- over the rounds

pub spelled_once : (bytes : List ℕ) (vs ws : List Rpc) → Spell bytes vs → Spell bytes ws → vs ≡ ws
spelled_once bytes vs ws h k = (one_stream longest_body bytes vs ws h.0 k.0 h.1 k.1 h.2 k.2).0

-- what was handled, and what has ended since
handled_further : (before whole : List ℕ) (vs : List Rpc) (x : Inbound) → Spell before vs → IsBetween before whole x → Spell whole (vs ++ x.rpcs)
handled_further before whole vs x spell between =
    subst (λ (ws : List Rpc). Spell whole (ws ++ x.rpcs)) (spelled_once before between.earlier vs between.spell_before spell) (x.rest, x.end, between.stream)

pub no_bytes : Spell [] []
no_bytes = ([], Waits, record { front = []; parts = refl; frames = refl; goes_on = inl (omega arith, tt) })

-- what is handled after this many rounds: what was said before the last of them
abbrev pub HandledIn : ℕ → Said → List Rpc → Type 0
HandledIn zero w rpcs = rpcs ≡ []
HandledIn (suc r) w rpcs = Spell (bytes_before r w) rpcs

one_round : (r : ℕ) (w : Said) (vs : List Rpc) (x : Inbound) → HandledIn r w vs → ComesIn r w x → HandledIn (suc r) w (vs ++ x.rpcs)
one_round zero w vs x before comes =
    subst (λ (ws : List Rpc). Spell [] ws) (sym (ap₂ (λ (ys zs : List Rpc). ys ++ zs) before (ap (λ (y : Inbound). y.rpcs) comes))) no_bytes
one_round (suc r) w vs x before comes = handled_further (bytes_before r w) (bytes_before (suc r) w) vs x before comes.0

-- what is handled in a phase of one neighbour
record HandledAt (seat : Seat) (said : PeerNo → Said) (phase : Phase) (q : PeerNo) (K L : Entries) : Type 0 where
  before : Legal seat.peer K
  inbound : Inbound
  was_said : ComesAt seat phase (said q) inbound
  now : handled L q ≡ handled K q ++ inbound.rpcs

phase_handles : (seat : Seat) (said : PeerNo → Said) (phase : Phase) (q : PeerNo) (K L : Entries) (refused : List RefusedLine) → StandsOnce q (links_of seat.peer) → Plays seat said phase K L refused → Legal seat.peer L → HandledAt seat said phase q K L
phase_handles seat said phase q K L refused once plays legal =
    let p = seat.peer in
    let todos : List Todo = agenda seat phase plays.inbound in
    let one = heard_once (λ s x. ComesAt seat phase (said s) x) q (links_of p) plays.inbound once plays.was_said in
    record {
      before = legal_then_before p K L (does_on p (moment_of seat phase) todos K L refused plays.does) legal;
      inbound = one.inbound;
      was_said = one.was_said;
      now = does_handle p q (moment_of seat phase) todos K L refused plays.does legal
          ∙ ap (λ (xs : List Rpc). handled K q ++ xs) (phase_hears seat phase q plays.inbound ∙ one.is);
    }

pub rounds_handle : (seat : Seat) (said : PeerNo → Said) (q : PeerNo) (r : ℕ) (L : Entries) (refused : List RefusedLine) → StandsOnce q (links_of seat.peer) → AfterRounds seat said r L refused → Legal seat.peer L → HandledIn r (said q) (handled L q)
rounds_handle seat said q zero L refused once h legal = ap (λ (M : Entries). handled M q) h.0
rounds_handle seat said q (suc r) L refused once (K, earlier, more, before, plays, is) legal =
    let one = phase_handles seat said (Playing r) q K L more once plays legal in
    subst (HandledIn (suc r) (said q)) (sym one.now) (one_round r (said q) (handled K q) one.inbound (rounds_handle seat said q r K earlier once before one.before) one.was_said)

-- after the close all that a neighbour said is handled
life_handles : (seat : Seat) (said : PeerNo → Said) (q : PeerNo) (L : Entries) (refused : List RefusedLine) → StandsOnce q (links_of seat.peer) → Legal seat.peer L → KeepsRounds seat said L refused → Spell (bytes_of (said q)) (handled L q)
life_handles seat said q L refused once legal keeps =
    let one = phase_handles seat said Closing q keeps.last L [] once keeps.closed legal in
    let before : Spell (bytes_before seat.rounds (said q)) (handled keeps.last q) = rounds_handle seat said q (suc seat.rounds) keeps.last refused once keeps.played one.before in
    subst (λ (vs : List Rpc). Spell (bytes_of (said q)) vs) (sym one.now) (handled_further (bytes_before seat.rounds (said q)) (bytes_of (said q)) (handled keeps.last q) one.inbound before one.was_said.0)

each_handled : (seat : Seat) (said : PeerNo → Said) (L : Entries) (refused : List RefusedLine) (qs : List PeerNo) → Legal seat.peer L → KeepsRounds seat said L refused → AllByRecursion (λ q. StandsOnce q (links_of seat.peer)) qs → AllByRecursion (λ q. Spell (bytes_of (said q)) (handled L q)) qs
each_handled seat said L refused [] legal keeps once = tt
each_handled seat said L refused (q ∷ qs) legal keeps once =
    (life_handles seat said q L refused once.0 legal keeps, each_handled seat said L refused qs legal keeps once.1)

pub said_is_handled : (seat : Seat) (said : PeerNo → Said) (L : Entries) (refused : List RefusedLine) → IsAscending (links_of seat.peer) → Legal seat.peer L → KeepsRounds seat said L refused → AllByRecursion (λ q. Spell (bytes_of (said q)) (handled L q)) (links_of seat.peer)
said_is_handled seat said L refused ascending legal keeps =
    each_handled seat said L refused (links_of seat.peer) legal keeps (distinct_once (links_of seat.peer) (distinct_from_ascending (links_of seat.peer) ascending))

-- ---- a part that is whole

pub part_is_whole : (seat : Seat) (said : PeerNo → Said) (phase : Phase) (K L : Entries) (refused : List RefusedLine) → PlaysInPart seat said phase [] K L refused → Plays seat said phase K L refused
part_is_whole seat said phase K L refused part = record {
  inbound = part.inbound;
  was_said = part.was_said;
  does = subst (λ (todos : List Todo). Does seat.peer (moment_of seat phase) todos K L refused) (sym (part.split ∙ append-nil part.done)) part.does;
}
