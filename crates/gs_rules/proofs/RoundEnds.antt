-- A round ends with its mark, after which nothing is owed.
use Rattle.std.proofs.Common.{◌≡◌, ℕ, zero, suc, List, [], ◌∷◌, ◌++◌, Option, Some, None, refl, sym, ap, subst, ◌∙◌, append_assoc}
use Rattle.gs_base.specs.declared.names.PeerNo.{PeerNo}
use Rattle.gs_base.specs.declared.names.Millis.{Millis}
use Rattle.gs_rules.specs.declared.event.Event.{Event}
use Rattle.gs_rules.specs.declared.event.Event.TheVariants.{RoundEnd}
use Rattle.gs_rules.specs.declared.trace.Entry.{Entry}
use Rattle.gs_rules.specs.declared.refusal.RefusedLine.{RefusedLine}
use Rattle.gs_rules.specs.Peers.{Peer, links_of}
use Rattle.gs_rules.specs.Tables.{Entries}
use Rattle.gs_rules.specs.Owed.{Debt, nothing, owed, owes, owing}
use Rattle.gs_rules.specs.Legal.{ArePayments, Comes}
use Rattle.gs_rules.specs.Saying.{Said}
use Rattle.gs_rules.specs.Hearing.{Inbound}
use Rattle.gs_rules.specs.Rounds.{Seat, Playing, Todo, EndRound, Does, Plays, AfterRounds, agenda, beats_in, decays_in, hears, lines_at, moment_of, noted, opening, clock_of}
use Rattle.gs_rules.proofs.Handled.{GoesOn, does_on}

-- ---- what is done in order

-- the first of what is done, and then the rest
pub does_parts : (p : Peer) (at : Millis) (xs ys : List Todo) (K L : Entries) (refused : List RefusedLine) → Does p at (xs ++ ys) K L refused → (M : Entries) × (first : List RefusedLine) × (more : List RefusedLine) × Does p at xs K M first × Does p at ys M L more
does_parts p at [] ys K L refused h = (K, [], refused, (refl, refl), h)
does_parts p at (x ∷ xs) ys K L refused (N, later, comes, does, is) =
    let (M, first, more, before, behind) = does_parts p at xs ys N L later does in
    (M, noted p K at x ++ first, more, (N, first, comes, before, refl), behind)

-- what there is to do in a round but for its end
abbrev work : Seat → ℕ → List Inbound → List Todo
work seat r xs =
    hears (links_of seat.peer) xs
    ++ (lines_at seat r ++ (decays_in seat.peer r (clock_of seat r) ++ beats_in seat.peer r (clock_of seat r)))

work_ends : (seat : Seat) (r : ℕ) (xs : List Inbound) → agenda seat (Playing r) xs ≡ work seat r xs ++ EndRound r ∷ []
work_ends seat r xs =
    let clock : Millis = clock_of seat r in
    let heard : List Todo = hears (links_of seat.peer) xs in
    let lines : List Todo = lines_at seat r in
    let decays : List Todo = decays_in seat.peer r clock in
    let beats : List Todo = beats_in seat.peer r clock in
    let last : List Todo = EndRound r ∷ [] in
    sym (append_assoc heard (lines ++ (decays ++ beats)) last ∙ ap (λ (todos : List Todo). heard ++ todos) (append_assoc lines (decays ++ beats) last ∙ ap (λ (todos : List Todo). lines ++ todos) (append_assoc decays beats last)))

-- ---- what is owed

-- where nothing is owed nothing is paid
pays_nothing : (p : Peer) (at : Millis) (L : Entries) (paid : List Entry) → owed p L ≡ nothing → ArePayments p at L paid → paid ≡ []
pays_nothing p at L [] none payments = refl
pays_nothing p at L (e ∷ paid) none (is, some, earlier) =
    let first : paid ≡ [] = pays_nothing p at L paid none earlier in
    absurd (some (ap (λ (xs : List Entry). (owed p (xs ++ L)).events) first ∙ ap (λ (debt : Debt). debt.events) none))

-- what comes pays all that it owes
comes_settled : (p : Peer) (at : Millis) (event : Option Event) (K L : Entries) → Comes p at event K L → owed p K ≡ nothing → owed p L ≡ nothing
comes_settled p at None K L comes none = ap (owed p) comes ∙ none
comes_settled p at (Some event) K L comes none = comes.settled

does_settled : (p : Peer) (at : Millis) (todos : List Todo) (K L : Entries) (refused : List RefusedLine) → Does p at todos K L refused → owed p K ≡ nothing → owed p L ≡ nothing
does_settled p at [] K L refused does none = ap (owed p) does.0 ∙ none
does_settled p at (todo ∷ todos) K L refused (M, later, comes, does, is) none =
    does_settled p at todos M L later does (comes_settled p at (opening p K at todo) K M comes none)

rounds_settled : (seat : Seat) (said : PeerNo → Said) (r : ℕ) (L : Entries) (refused : List RefusedLine) → AfterRounds seat said r L refused → owed seat.peer L ≡ nothing
rounds_settled seat said zero L refused played = ap (owed seat.peer) played.0
rounds_settled seat said (suc r) L refused (K, earlier, more, before, plays, is) =
    does_settled seat.peer (moment_of seat (Playing r)) (agenda seat (Playing r) plays.inbound) K L more plays.does (rounds_settled seat said r K earlier before)

-- the end of a round owes nothing
end_owes : (p : Peer) (r : ℕ) (M : Entries) (e : Entry) → e.event ≡ RoundEnd r → owed p M ≡ nothing → owed p (e ∷ M) ≡ nothing
end_owes p r M e is none =
    ap (λ (event : Event). owing p (e ∷ M) (owes p M e.at.0 event) (owed p M)) is ∙ ap (owing p (e ∷ M) []) none

-- ---- the end of a round

-- A round's end is the last that came, and this is the trace before it.
pub record HasEnded (r : ℕ) (J K : Entries) : Type 0 where
  pub before : Entries
  pub end : Entry
  pub is_end : end.event ≡ RoundEnd r
  pub goes_on : GoesOn J before
  pub are : K ≡ end ∷ before

pub has_ended : (seat : Seat) (said : PeerNo → Said) (r : ℕ) (J K : Entries) (earlier refused : List RefusedLine) → AfterRounds seat said r J earlier → Plays seat said (Playing r) J K refused → HasEnded r J K
has_ended seat said r J K earlier refused played plays =
    let p : Peer = seat.peer in
    let at : Millis = moment_of seat (Playing r) in
    let todos : List Todo = work seat r plays.inbound in
    let (M, first, more, before, behind) = does_parts p at todos (EndRound r ∷ []) J K refused (subst (λ (all : List Todo). Does p at all J K refused) (work_ends seat r plays.inbound) plays.does) in
    let (N, later, opens, none, is) = behind in
    let begun = opens.begun in
    let e : Entry = begun.first in
    let settled : owed p M ≡ nothing = does_settled p at todos J M first before (rounds_settled seat said r J earlier played) in
    let paid : begun.paid ≡ [] = pays_nothing p at (e ∷ M) begun.paid (end_owes p r M e begun.opened settled) begun.payments in
    record {
      before = M;
      end = e;
      is_end = begun.opened;
      goes_on = does_on p at todos J M first before;
      are = none.0 ∙ begun.entries ∙ ap (λ (xs : List Entry). xs ++ e ∷ M) paid;
    }
