-- A peer to which its neighbours say the same keeps the same rounds, and has handled what they say.
use Rattle.std.proofs.Common.{◌≡◌, ℕ, zero, suc, List, [], ◌∷◌, subst}
use Rattle.std.specs.List.{AllZip, AllByRecursion}
use Rattle.gs_base.specs.declared.names.PeerNo.{PeerNo}
use Rattle.gs_rules.specs.declared.refusal.RefusedLine.{RefusedLine}
use Rattle.gs_rules.specs.Peers.{links_of}
use Rattle.gs_rules.specs.Tables.{Entries}
use Rattle.gs_rules.specs.Saying.{Said, bytes_of, handled}
use Rattle.gs_rules.specs.Hearing.{Inbound, Spell}
use Rattle.gs_rules.specs.Rounds.{Seat, Phase, Playing, Closing, ComesAt, Plays, AfterRounds, KeepsRounds}

-- each of these says the same
abbrev pub SayTheSame : (PeerNo → Said) → (PeerNo → Said) → List PeerNo → Type 0
SayTheSame said other qs = AllByRecursion (λ q. said q ≡ other q) qs

-- ---- rounds

comes_same : (seat : Seat) (said other : PeerNo → Said) (phase : Phase) (qs : List PeerNo) (xs : List Inbound) → SayTheSame said other qs → AllZip (λ q x. ComesAt seat phase (said q) x) qs xs → AllZip (λ q x. ComesAt seat phase (other q) x) qs xs
comes_same seat said other phase [] [] same h = tt
comes_same seat said other phase [] (x ∷ xs) same h = absurd h
comes_same seat said other phase (q ∷ qs) [] same h = absurd h
comes_same seat said other phase (q ∷ qs) (x ∷ xs) same h =
    (subst (λ (w : Said). ComesAt seat phase w x) same.0 h.0, comes_same seat said other phase qs xs same.1 h.1)

plays_same : (seat : Seat) (said other : PeerNo → Said) (phase : Phase) (K L : Entries) (refused : List RefusedLine) → SayTheSame said other (links_of seat.peer) → Plays seat said phase K L refused → Plays seat other phase K L refused
plays_same seat said other phase K L refused same plays = record {
  inbound = plays.inbound;
  was_said = comes_same seat said other phase (links_of seat.peer) plays.inbound same plays.was_said;
  does = plays.does;
}

rounds_same : (seat : Seat) (said other : PeerNo → Said) (r : ℕ) (L : Entries) (refused : List RefusedLine) → SayTheSame said other (links_of seat.peer) → AfterRounds seat said r L refused → AfterRounds seat other r L refused
rounds_same seat said other zero L refused same h = h
rounds_same seat said other (suc r) L refused same (K, earlier, more, before, plays, is) =
    (K, earlier, more, rounds_same seat said other r K earlier same before, plays_same seat said other (Playing r) K L more same plays, is)

-- a whole life, where the neighbours say the same
pub keeps_same : (seat : Seat) (said other : PeerNo → Said) (L : Entries) (refused : List RefusedLine) → SayTheSame said other (links_of seat.peer) → KeepsRounds seat said L refused → KeepsRounds seat other L refused
keeps_same seat said other L refused same keeps = record {
  last = keeps.last;
  played = rounds_same seat said other (suc seat.rounds) keeps.last refused same keeps.played;
  closed = plays_same seat said other Closing keeps.last L [] same keeps.closed;
}

-- ---- what is handled

pub handles_same : (said other : PeerNo → Said) (L : Entries) (qs : List PeerNo) → SayTheSame said other qs → AllByRecursion (λ q. Spell (bytes_of (said q)) (handled L q)) qs → AllByRecursion (λ q. Spell (bytes_of (other q)) (handled L q)) qs
handles_same said other L [] same h = tt
handles_same said other L (q ∷ qs) same h =
    (subst (λ (w : Said). Spell (bytes_of w) (handled L q)) same.0 h.0, handles_same said other L qs same.1 h.1)
