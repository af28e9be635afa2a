-- A peer puts bytes that are no frames on a link only where its script says so.
use Rattle.std.proofs.Common.{◌≡◌, ℕ, zero, suc, Bool, true, false, if◌then◌else◌, List, [], ◌∷◌, ◌++◌, map, filter, Option, Some, None, refl, sym, subst}
use Rattle.std.specs.List.{AllByRecursion}
use Rattle.gs_base.specs.declared.names.PeerNo.{PeerNo}
use Rattle.gs_base.specs.declared.names.Millis.{Millis}
use Rattle.gs_base.specs.declared.rpc.Rpc.{Rpc}
use Rattle.gs_plan.specs.declared.plan.Line.{Line}
use Rattle.gs_wire.proofs.RoundTrip.{all-append}
use Rattle.gs_rules.specs.declared.event.Event.{Event}
use Rattle.gs_rules.specs.declared.event.Event.TheVariants.{Heard, Late, Part, Step, Own}
use Rattle.gs_rules.specs.declared.trace.Entry.{Entry}
use Rattle.gs_rules.specs.declared.refusal.Refusal.{Refusal}
use Rattle.gs_rules.specs.declared.refusal.RefusedLine.{RefusedLine}
use Rattle.gs_rules.specs.Peers.{Peer, links_of}
use Rattle.gs_rules.specs.Tables.{Entries, up}
use Rattle.gs_rules.specs.Legal.{Comes, Legal}
use Rattle.gs_rules.specs.Refusals.{refusal}
use Rattle.gs_rules.specs.Saying.{Said, SaysOnlyFrames, raw_to}
use Rattle.gs_rules.specs.Hearing.{Inbound}
use Rattle.gs_rules.specs.Rounds.{AfterRounds, Beat, Closing, DecayCounters, Does, EndRound, Hear, HearFault, HearGone, KeepsRounds, Obey, Phase, Playing, Plays, PutsNoBytes, Seat, Stop, Todo, agenda, beats_in, decays_in, ending, hears, hears_of, is_at, is_broken, is_due, lines_at, moment_of, obey, opening, unless_refused, clock_of}
use Rattle.gs_rules.proofs.Each.{each_mapped, each_passing, of_each}
use Rattle.gs_rules.proofs.Handled.{does_on, legal_then_before, payments_are_owed}
use Rattle.gs_rules.proofs.Owed.{IsOwed}

-- an event puts no bytes on q's link
abbrev IsQuiet : PeerNo → Event → Type 0
IsQuiet q event = raw_to q event ≡ []

owed_is_quiet : (q : PeerNo) (event : Event) → IsOwed event → IsQuiet q event
owed_is_quiet q (Part r part) h = refl
owed_is_quiet q (Step step) h = refl
owed_is_quiet q other h = absurd h

paid_are_quiet : (q : PeerNo) (L : Entries) (paid : List Entry) → AllByRecursion (λ (e : Entry). IsOwed e.event) paid → SaysOnlyFrames q L → SaysOnlyFrames q (paid ++ L)
paid_are_quiet q L [] owed before = before
paid_are_quiet q L (e ∷ paid) owed before = (owed_is_quiet q e.event owed.0, paid_are_quiet q L paid owed.1 before)

-- what is done puts none, if its line does not
abbrev DoesQuietly : PeerNo → Todo → Type 0
DoesQuietly q (Obey place what) = IsQuiet q (Own what)
DoesQuietly q other = Unit {0}

abbrev OpensQuietly : PeerNo → Option Event → Type 0
OpensQuietly q None = Unit {0}
OpensQuietly q (Some event) = IsQuiet q event

heard_quietly : (q r : PeerNo) (rpc : Rpc) (is_up : Bool) → IsQuiet q (if is_up then Heard r rpc else Late r rpc)
heard_quietly q r rpc true = refl
heard_quietly q r rpc false = refl

lost_quietly : (q : PeerNo) (event : Event) (is_up : Bool) → IsQuiet q event → OpensQuietly q (if is_up then Some event else None)
lost_quietly q event true quiet = quiet
lost_quietly q event false quiet = tt

followed_quietly : (q : PeerNo) (event : Event) (why : Option Refusal) → IsQuiet q event → OpensQuietly q (unless_refused event why)
followed_quietly q event None quiet = quiet
followed_quietly q event (Some why) quiet = tt

opening_is_quiet : (p : Peer) (q : PeerNo) (K : Entries) (at : Millis) (todo : Todo) → DoesQuietly q todo → OpensQuietly q (opening p K at todo)
opening_is_quiet p q K at (Hear r rpc) quiet = heard_quietly q r rpc (up K r)
opening_is_quiet p q K at (HearFault r) quiet = lost_quietly q _ (up K r) refl
opening_is_quiet p q K at (HearGone r) quiet = lost_quietly q _ (up K r) refl
opening_is_quiet p q K at (Obey place what) quiet = followed_quietly q (Own what) (refusal p K at.0 (Own what)) quiet
opening_is_quiet p q K at DecayCounters quiet = refl
opening_is_quiet p q K at Beat quiet = refl
opening_is_quiet p q K at (EndRound r) quiet = refl
opening_is_quiet p q K at Stop quiet = refl

comes_quietly : (p : Peer) (q : PeerNo) (at : Millis) (event : Option Event) (K L : Entries) → Comes p at event K L → Legal p L → OpensQuietly q event → SaysOnlyFrames q K → SaysOnlyFrames q L
comes_quietly p q at None K L comes legal quiet before = subst (SaysOnlyFrames q) (sym comes) before
comes_quietly p q at (Some event) K L comes legal quiet before =
    let b = comes.begun in
    let paid = payments_are_owed p at (b.first ∷ K) b.paid b.payments (subst (Legal p) b.entries legal) in
    subst (SaysOnlyFrames q) (sym b.entries)
    (paid_are_quiet q (b.first ∷ K) b.paid paid (subst (IsQuiet q) (sym b.opened) quiet, before))

does_quietly : (p : Peer) (q : PeerNo) (at : Millis) (todos : List Todo) (K L : Entries) (refused : List RefusedLine) → Does p at todos K L refused → Legal p L → AllByRecursion (DoesQuietly q) todos → SaysOnlyFrames q K → SaysOnlyFrames q L
does_quietly p q at [] K L refused h legal quiet before = subst (SaysOnlyFrames q) (sym h.0) before
does_quietly p q at (todo ∷ todos) K L refused (M, later, comes, does, is) legal quiet before =
    does_quietly p q at todos M L later does legal quiet.1
    (comes_quietly p q at (opening p K at todo) K M comes (legal_then_before p M L (does_on p at todos M L later does) legal) (opening_is_quiet p q K at todo quiet.0) before)

-- ---- what there is to do

ending_is_quiet : (q r : PeerNo) (x : Inbound) → AllByRecursion (DoesQuietly q) (ending r x)
ending_is_quiet q r x = by (is_broken x) x.closes
  where
    by : (broken closed : Bool) → AllByRecursion (DoesQuietly q) (if broken then HearFault r ∷ [] else if closed then HearGone r ∷ [] else [])
    by true closed = (tt, tt)
    by false true = (tt, tt)
    by false false = tt

hears_are_quiet : (q : PeerNo) (rs : List PeerNo) (xs : List Inbound) → AllByRecursion (DoesQuietly q) (hears rs xs)
hears_are_quiet q [] xs = tt
hears_are_quiet q (r ∷ rs) [] = tt
hears_are_quiet q (r ∷ rs) (x ∷ xs) =
    all-append (DoesQuietly q) (hears_of r x) (hears rs xs)
    (all-append (DoesQuietly q) (map (Hear r) x.rpcs) (ending r x)
    (each_mapped (DoesQuietly q) (Hear r) x.rpcs (of_each (λ (rpc : Rpc). DoesQuietly q (Hear r rpc)) (λ rpc. tt) x.rpcs)) (ending_is_quiet q r x))
    (hears_are_quiet q rs xs)

lines_are_quiet : (q : PeerNo) (r : ℕ) (lines : List (ℕ × Line)) → PutsNoBytes q lines → AllByRecursion (DoesQuietly q) (map obey (filter (is_at r) lines))
lines_are_quiet q r lines quiet =
    each_mapped (DoesQuietly q) obey (filter (is_at r) lines)
    (each_passing (λ (x : ℕ × Line). IsQuiet q (Own x.1.what)) (λ (x : ℕ × Line). DoesQuietly q (obey x)) (is_at r) (λ x passes is. is) lines quiet)

timed_are_quiet : (q : PeerNo) (todo : Todo) (due : Bool) → DoesQuietly q todo → AllByRecursion (DoesQuietly q) (if due then todo ∷ [] else [])
timed_are_quiet q todo true quiet = (quiet, tt)
timed_are_quiet q todo false quiet = tt

agenda_is_quiet : (seat : Seat) (phase : Phase) (q : PeerNo) (xs : List Inbound) → PutsNoBytes q seat.lines → AllByRecursion (DoesQuietly q) (agenda seat phase xs)
agenda_is_quiet seat (Playing r) q xs quiet =
    let clock : Millis = clock_of seat r in
    let decay : List Todo = decays_in seat.peer r clock in
    let beat : List Todo = beats_in seat.peer r clock in
    all-append (DoesQuietly q) (hears (links_of seat.peer) xs) (lines_at seat r ++ (decay ++ (beat ++ EndRound r ∷ [])))
    (hears_are_quiet q (links_of seat.peer) xs)
    (all-append (DoesQuietly q) (lines_at seat r) (decay ++ (beat ++ EndRound r ∷ []))
    (lines_are_quiet q r seat.lines quiet)
    (all-append (DoesQuietly q) decay (beat ++ EndRound r ∷ [])
    (timed_are_quiet q DecayCounters (is_due seat.peer.params.timing.decay_ms r clock) tt)
    (all-append (DoesQuietly q) beat (EndRound r ∷ [])
    (timed_are_quiet q Beat (is_due seat.peer.params.timing.heartbeat_ms r clock) tt) (tt, tt))))
agenda_is_quiet seat Closing q xs quiet = (tt, hears_are_quiet q (links_of seat.peer) xs)

-- ---- over the rounds

-- the trace before a phase is legal, and the one after it is as quiet
plays_quietly : (seat : Seat) (said : PeerNo → Said) (phase : Phase) (q : PeerNo) (K L : Entries) (refused : List RefusedLine) → Plays seat said phase K L refused → Legal seat.peer L → PutsNoBytes q seat.lines → SaysOnlyFrames q K → SaysOnlyFrames q L
plays_quietly seat said phase q K L refused plays legal quiet =
    does_quietly seat.peer q (moment_of seat phase) (agenda seat phase plays.inbound) K L refused plays.does legal (agenda_is_quiet seat phase q plays.inbound quiet)

legal_before_phase : (seat : Seat) (said : PeerNo → Said) (phase : Phase) (K L : Entries) (refused : List RefusedLine) → Plays seat said phase K L refused → Legal seat.peer L → Legal seat.peer K
legal_before_phase seat said phase K L refused plays legal =
    legal_then_before seat.peer K L (does_on seat.peer (moment_of seat phase) (agenda seat phase plays.inbound) K L refused plays.does) legal

rounds_are_quiet : (seat : Seat) (said : PeerNo → Said) (q : PeerNo) (r : ℕ) (L : Entries) (refused : List RefusedLine) → AfterRounds seat said r L refused → Legal seat.peer L → PutsNoBytes q seat.lines → SaysOnlyFrames q L
rounds_are_quiet seat said q zero L refused h legal quiet = subst (SaysOnlyFrames q) (sym h.0) tt
rounds_are_quiet seat said q (suc r) L refused (K, earlier, more, before, plays, is) legal quiet =
    plays_quietly seat said (Playing r) q K L more plays legal quiet
    (rounds_are_quiet seat said q r K earlier before (legal_before_phase seat said (Playing r) K L more plays legal) quiet)

-- a peer whose script puts no bytes on a link says nothing there but frames
pub script_says_frames : (seat : Seat) (said : PeerNo → Said) (q : PeerNo) (L : Entries) (refused : List RefusedLine) → KeepsRounds seat said L refused → Legal seat.peer L → PutsNoBytes q seat.lines → SaysOnlyFrames q L
script_says_frames seat said q L refused keeps legal quiet =
    plays_quietly seat said Closing q keeps.last L [] keeps.closed legal quiet
    (rounds_are_quiet seat said q (suc seat.rounds) keeps.last refused keeps.played (legal_before_phase seat said Closing keeps.last L [] keeps.closed legal) quiet)
