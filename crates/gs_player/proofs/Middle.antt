-- No mark of a round's end comes within a round: it is the last entry.
use Rattle.std.proofs.Common.{◌≡◌, ℕ, Bool, true, false, if◌then◌else◌, List, [], ◌∷◌, ◌++◌, map, filter, Option, Some, None, sym, ap, subst, ◌∙◌, append_assoc}
use Rattle.std.specs.List.{AllByRecursion}
use Rattle.gs_base.specs.declared.names.PeerNo.{PeerNo}
use Rattle.gs_base.specs.declared.names.Millis.{Millis}
use Rattle.gs_base.specs.declared.rpc.Rpc.{Rpc}
use Rattle.gs_plan.specs.declared.plan.Line.{Line}
use Rattle.gs_wire.proofs.RoundTrip.{all-append}
use Rattle.gs_rules.specs.declared.event.Event.{Event}
use Rattle.gs_rules.specs.declared.event.Event.TheVariants.{Heard, Late, Part, Step, Own, Lost, RoundEnd}
use Rattle.gs_rules.specs.declared.event.Loss.TheVariants.{Fault, Gone}
use Rattle.gs_rules.specs.declared.trace.Entry.{Entry}
use Rattle.gs_rules.specs.declared.refusal.Refusal.{Refusal}
use Rattle.gs_rules.specs.declared.refusal.RefusedLine.{RefusedLine}
use Rattle.gs_rules.specs.Peers.{Peer, links_of}
use Rattle.gs_rules.specs.Tables.{Entries, up}
use Rattle.gs_rules.specs.Legal.{Comes, Legal}
use Rattle.gs_rules.specs.Refusals.{refusal}
use Rattle.gs_rules.specs.Saying.{Said}
use Rattle.gs_rules.specs.Hearing.{Inbound}
use Rattle.gs_rules.specs.Rounds.{AfterRounds, Beat, DecayCounters, Does, EndRound, Hear, HearFault, HearGone, Obey, Playing, Plays, Seat, Stop, Todo, agenda, beats_in, decays_in, ending, hears, hears_of, is_at, is_broken, is_due, lines_at, moment_of, obey, opening, unless_refused, clock_of}
use Rattle.gs_rules.proofs.Each.{each_mapped, of_each}
use Rattle.gs_rules.proofs.Handled.{does_on, legal_then_before, payments_are_owed}
use Rattle.gs_rules.proofs.Owed.{IsOwed}
use Rattle.gs_rules.proofs.RoundEnds.{does_parts, has_ended}

-- the event is no end of a round
abbrev pub IsWithin : Event → Type 0
IsWithin (RoundEnd r) = ⊥
IsWithin other = Unit {0}

abbrev pub AllWithin : List Entry → Type 0
AllWithin entries = AllByRecursion (λ (e : Entry). IsWithin e.event) entries

owed_within : (event : Event) → IsOwed event → IsWithin event
owed_within (Part r part) h = tt
owed_within (Step step) h = tt
owed_within other h = absurd h

paid_within : (paid : List Entry) → AllByRecursion (λ (e : Entry). IsOwed e.event) paid → AllWithin paid
paid_within [] owed = tt
paid_within (e ∷ paid) owed = (owed_within e.event owed.0, paid_within paid owed.1)

-- ---- what there is to do

abbrev pub IsWork : Todo → Type 0
IsWork (EndRound r) = ⊥
IsWork other = Unit {0}

abbrev OpensWithin : Option Event → Type 0
OpensWithin None = Unit {0}
OpensWithin (Some event) = IsWithin event

heard_within : (r : PeerNo) (rpc : Rpc) (is_up : Bool) → IsWithin (if is_up then Heard r rpc else Late r rpc)
heard_within r rpc true = tt
heard_within r rpc false = tt

lost_within : (event : Event) (is_up : Bool) → IsWithin event → OpensWithin (if is_up then Some event else None)
lost_within event true within = within
lost_within event false within = tt

followed_within : (event : Event) (why : Option Refusal) → IsWithin event → OpensWithin (unless_refused event why)
followed_within event None within = within
followed_within event (Some why) within = tt

opening_within : (p : Peer) (K : Entries) (at : Millis) (todo : Todo) → IsWork todo → OpensWithin (opening p K at todo)
opening_within p K at (Hear r rpc) work = heard_within r rpc (up K r)
opening_within p K at (HearFault r) work = lost_within (Lost r Fault) (up K r) tt
opening_within p K at (HearGone r) work = lost_within (Lost r Gone) (up K r) tt
opening_within p K at (Obey place what) work = followed_within (Own what) (refusal p K at.0 (Own what)) tt
opening_within p K at DecayCounters work = tt
opening_within p K at Beat work = tt
opening_within p K at (EndRound r) work = absurd work
opening_within p K at Stop work = tt

-- the one trace goes on after the other, and no round ends in between
abbrev pub GoesOnWithin : Entries → Entries → Type 0
GoesOnWithin K L = (entries : List Entry) × (L ≡ entries ++ K) × AllWithin entries

further : (K M L : Entries) → GoesOnWithin K M → GoesOnWithin M L → GoesOnWithin K L
further K M L (before, is, within) (behind, is', within') =
    (behind ++ before, is' ∙ ap (λ (N : Entries). behind ++ N) is ∙ sym (append_assoc behind before K), all-append (λ (e : Entry). IsWithin e.event) behind before within' within)

pub comes_within : (p : Peer) (at : Millis) (event : Option Event) (K L : Entries) → Comes p at event K L → Legal p L → OpensWithin event → GoesOnWithin K L
comes_within p at None K L comes legal within = ([], comes, tt)
comes_within p at (Some event) K L comes legal within =
    let b = comes.begun in
    let paid = payments_are_owed p at (b.first ∷ K) b.paid b.payments (subst (Legal p) b.entries legal) in (
      b.paid ++ b.first ∷ [],
      b.entries ∙ sym (append_assoc b.paid (b.first ∷ []) K),
      all-append (λ (e : Entry). IsWithin e.event) b.paid (b.first ∷ []) (paid_within b.paid paid) (subst IsWithin (sym b.opened) within, tt),
    )

pub does_within : (p : Peer) (at : Millis) (todos : List Todo) (K L : Entries) (refused : List RefusedLine) → Does p at todos K L refused → Legal p L → AllByRecursion IsWork todos → GoesOnWithin K L
does_within p at [] K L refused h legal work = ([], h.0, tt)
does_within p at (todo ∷ todos) K L refused (M, later, comes, does, is) legal work =
    let before : Legal p M = legal_then_before p M L (does_on p at todos M L later does) legal in
    further K M L (comes_within p at (opening p K at todo) K M comes before (opening_within p K at todo work.0)) (does_within p at todos M L later does legal work.1)

-- ---- a round

ending_is_work : (r : PeerNo) (x : Inbound) → AllByRecursion IsWork (ending r x)
ending_is_work r x = by (is_broken x) x.closes
  where
    by : (broken closed : Bool) → AllByRecursion IsWork (if broken then HearFault r ∷ [] else if closed then HearGone r ∷ [] else [])
    by true closed = (tt, tt)
    by false true = (tt, tt)
    by false false = tt

hears_are_work : (rs : List PeerNo) (xs : List Inbound) → AllByRecursion IsWork (hears rs xs)
hears_are_work [] xs = tt
hears_are_work (r ∷ rs) [] = tt
hears_are_work (r ∷ rs) (x ∷ xs) =
    all-append IsWork (hears_of r x) (hears rs xs)
    (all-append IsWork (map (Hear r) x.rpcs) (ending r x) (each_mapped IsWork (Hear r) x.rpcs (of_each (λ (rpc : Rpc). IsWork (Hear r rpc)) (λ rpc. tt) x.rpcs)) (ending_is_work r x))
    (hears_are_work rs xs)

lines_are_work : (lines : List (ℕ × Line)) → AllByRecursion IsWork (map obey lines)
lines_are_work lines = each_mapped IsWork obey lines (of_each (λ (x : ℕ × Line). IsWork (obey x)) (λ x. tt) lines)

timed_are_work : (todo : Todo) (due : Bool) → IsWork todo → AllByRecursion IsWork (if due then todo ∷ [] else [])
timed_are_work todo true work = (work, tt)
timed_are_work todo false work = tt

-- what there is to do in a round but for its end
abbrev work_of : Seat → ℕ → List Inbound → List Todo
work_of seat r xs =
    hears (links_of seat.peer) xs
    ++ (lines_at seat r ++ (decays_in seat.peer r (clock_of seat r) ++ beats_in seat.peer r (clock_of seat r)))

all_is_work : (seat : Seat) (r : ℕ) (xs : List Inbound) → AllByRecursion IsWork (work_of seat r xs)
all_is_work seat r xs =
    let clock : Millis = clock_of seat r in
    let decay : List Todo = decays_in seat.peer r clock in
    let beat : List Todo = beats_in seat.peer r clock in
    all-append IsWork (hears (links_of seat.peer) xs) (lines_at seat r ++ (decay ++ beat)) (hears_are_work (links_of seat.peer) xs)
    (all-append IsWork (lines_at seat r) (decay ++ beat) (lines_are_work (filter (is_at r) seat.lines))
    (all-append IsWork decay beat
    (timed_are_work DecayCounters (is_due seat.peer.params.timing.decay_ms r clock) tt)
    (timed_are_work Beat (is_due seat.peer.params.timing.heartbeat_ms r clock) tt)))

work_then_end : (seat : Seat) (r : ℕ) (xs : List Inbound) → agenda seat (Playing r) xs ≡ work_of seat r xs ++ EndRound r ∷ []
work_then_end seat r xs =
    let clock : Millis = clock_of seat r in
    let heard : List Todo = hears (links_of seat.peer) xs in
    let lines : List Todo = lines_at seat r in
    let decays : List Todo = decays_in seat.peer r clock in
    let beats : List Todo = beats_in seat.peer r clock in
    let last : List Todo = EndRound r ∷ [] in
    sym (append_assoc heard (lines ++ (decays ++ beats)) last ∙ ap (λ (todos : List Todo). heard ++ todos) (append_assoc lines (decays ++ beats) last ∙ ap (λ (todos : List Todo). lines ++ todos) (append_assoc decays beats last)))

-- A round is what comes within it, and then its end.
pub record IsRoundOf (r : ℕ) (J K : Entries) : Type 0 where
  pub before : Entries
  pub end : Entry
  pub is_end : end.event ≡ RoundEnd r
  pub within : GoesOnWithin J before
  pub are : K ≡ end ∷ before

abbrev rest_of : Entries → Entries
rest_of [] = []
rest_of (e ∷ L) = L

abbrev event_or : Event → Entries → Event
event_or d [] = d
event_or d (e ∷ L) = e.event

-- after the end nothing is paid
ends_alone : (p : Peer) (at : Millis) (r : ℕ) (M K before : Entries) (end first : Entry) (paid : List Entry)
    → K ≡ paid ++ first ∷ M → K ≡ end ∷ before → end.event ≡ RoundEnd r → AllByRecursion (λ (e : Entry). IsOwed e.event) paid → before ≡ M
ends_alone p at r M K before end first [] is are is_end owed = ap rest_of (sym are ∙ is)
ends_alone p at r M K before end first (e ∷ paid) is are is_end owed =
    let same : e.event ≡ RoundEnd r = ap (event_or end.event) (sym is ∙ are) ∙ is_end in
    absurd (subst IsOwed same owed.0)

pub round_of : (seat : Seat) (said : PeerNo → Said) (r : ℕ) (J K : Entries) (earlier refused : List RefusedLine) → Legal seat.peer K → AfterRounds seat said r J earlier → Plays seat said (Playing r) J K refused → IsRoundOf r J K
round_of seat said r J K earlier refused legal played plays =
    let p : Peer = seat.peer in
    let at : Millis = moment_of seat (Playing r) in
    let todos : List Todo = work_of seat r plays.inbound in
    let ended = has_ended seat said r J K earlier refused played plays in
    let (M, first, more, before, behind) = does_parts p at todos (EndRound r ∷ []) J K refused (subst (λ (all : List Todo). Does p at all J K refused) (work_then_end seat r plays.inbound) plays.does) in
    let legally : Legal p M = legal_then_before p M K (does_on p at (EndRound r ∷ []) M K more behind) legal in
    let within : GoesOnWithin J M = does_within p at todos J M first before legally (all_is_work seat r plays.inbound) in
    let (N, later, opens, none, is) = behind in
    let b = opens.begun in
    let whole : K ≡ b.paid ++ b.first ∷ M = none.0 ∙ b.entries in
    let paid = payments_are_owed p at (b.first ∷ M) b.paid b.payments (subst (Legal p) whole legal) in
    record {
      before = ended.before;
      end = ended.end;
      is_end = ended.is_end;
      within = subst (GoesOnWithin J) (sym (ends_alone p at r M K ended.before ended.end b.first b.paid whole ended.are ended.is_end paid)) within;
      are = ended.are;
    }
