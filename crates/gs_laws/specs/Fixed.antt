-- What fixes what a peer does in a phase of its run, and what fixes what it says.
use Rattle.std.specs.Prelude.{◌≡◌, ℕ, zero, suc, List, [], ◌∷◌, ◌++◌}
use Rattle.std.specs.List.{AllByRecursion}
use Rattle.gs_base.specs.declared.names.PeerNo.{PeerNo}
use Rattle.gs_base.specs.declared.names.Millis.{Millis}
use Rattle.gs_base.specs.Tokens.{Said}
use Rattle.gs_wire.specs.Codec.{codec}
use Rattle.gs_rules.specs.declared.trace.Entry.{Entry}
use Rattle.gs_rules.specs.declared.event.Event.TheVariants.{Shut}
use Rattle.gs_rules.specs.declared.refusal.RefusedLine.{RefusedLine}
use Rattle.gs_rules.specs.Peers.{Peer, links_of}
use Rattle.gs_rules.specs.Tables.{Entries}
use Rattle.gs_rules.specs.Rules.{no_effects}
use Rattle.gs_rules.specs.Modes.{exact}
use Rattle.gs_rules.specs.Legal.{Legal, LegalOn}
use Rattle.gs_rules.specs.Saying.{out}
use Rattle.gs_rules.specs.Hearing.{said_in}
use Rattle.gs_rules.specs.Rounds.{Seat, Phase, Playing, Closing, Plays, AfterRounds, moment_of}

-- ---- words that are heard alike

-- what is said in each of the first r rounds, the last of these first; after a close each round holds only the close
abbrev pub first_rounds : ℕ → Said → List Said
first_rounds zero w = []
first_rounds (suc r) w = said_in r w ∷ first_rounds r w

-- A peer hears two words alike in a phase. In round r the first r rounds of the words are the same, and after the last round
-- the whole words are the same.
abbrev pub AreHeardAlike : Phase → Said → Said → Type 0
AreHeardAlike (Playing r) v w = first_rounds r v ≡ first_rounds r w
AreHeardAlike Closing v w = v ≡ w

-- the peer hears the words of each neighbour alike in the phase
abbrev pub NeighboursAreHeardAlike : Seat → Phase → (PeerNo → Said) → (PeerNo → Said) → Type 0
NeighboursAreHeardAlike seat phase said other =
    AllByRecursion (λ q. AreHeardAlike phase (said q) (other q)) (links_of seat.peer)

-- ---- what fixes what a peer does

module _ {S : Type 0} (word : S → ℕ) (after : S → S) where
  -- each entry may come after those before it, and random words make its choices, from this state on
  abbrev pub LegalByWords : Peer → S → Entries → Type 0
  LegalByWords p first L = (last : S) × LegalOn (exact word after) p first [] L last

  -- Two things fix the trace after a phase: the trace before it, and what the neighbours said, as far as the peer hears that
  -- in the phase. They also fix the lines that are refused there. This is about traces in which random words make the
  -- choices.
  abbrev pub APhaseIsFixed : Type 0
  APhaseIsFixed =
      (seat : Seat) (first : S) (phase : Phase) (said other : PeerNo → Said) (before L M : Entries)
      (refused more : List RefusedLine)
      → LegalByWords seat.peer first L
      → LegalByWords seat.peer first M
      → NeighboursAreHeardAlike seat phase said other
      → Plays seat said phase before L refused
      → Plays seat other phase before M more
      → (L ≡ M) × (refused ≡ more)

-- ---- what fixes what a peer says

-- By the end of its first rounds a peer has said all that it says in them, whatever it does after them.
abbrev pub RoundsAreSaidByTheirEnd : Type 0
RoundsAreSaidByTheirEnd =
    (seat : Seat) (said : PeerNo → Said) (r : ℕ) (L : Entries) (later : List Entry) (refused : List RefusedLine)
    (q : PeerNo)
    → AfterRounds seat said r L refused
    → first_rounds r (out codec (later ++ L) q) ≡ first_rounds r (out codec L q)

-- a shutdown at which the peer does nothing
abbrev pub shutdown : Millis → Entry
shutdown at = record { at = at; event = Shut; effects = no_effects }

-- By the end of the last round a peer has said all that it says, except what its end adds. The word would be the same if the
-- peer only shut down.
abbrev pub AllIsSaidByTheEnd : Type 0
AllIsSaidByTheEnd =
    (seat : Seat) (said : PeerNo → Said) (last L : Entries) (refused : List RefusedLine) (q : PeerNo)
    → Legal seat.peer L
    → Plays seat said Closing last L refused
    → out codec L q ≡ out codec (shutdown (moment_of seat Closing) ∷ last) q
