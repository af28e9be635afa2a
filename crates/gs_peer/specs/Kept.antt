-- What a task keeps, wherever it may be suspended.
use Rattle.std.specs.Prelude.{◌≡◌, ◌≤◌, suc, Bool, true, false, List, [], ◌++◌, Some}
use Rattle.std.specs.List.{AllByRecursion}
use Rattle.gs_base.specs.declared.names.PeerNo.{PeerNo}
use Rattle.gs_base.specs.Tokens.{Said, bytes_of}
use Rattle.gs_params.specs.Picks.{IsAscending}
use Rattle.gs_params.specs.Seeding.{SeededState, seeded_after, seeded_word}
use Rattle.gs_wire.specs.Messages.{longest_body}
use Rattle.gs_wire.specs.Stream.{HasRead}
use Rattle.gs_wire.specs.Codec.{codec}
use Rattle.gs_link.specs.Flat.{flat}
use Rattle.gs_rules.specs.declared.event.Event.TheVariants.{Shut}
use Rattle.gs_rules.specs.declared.refusal.RefusedLine.{RefusedLine}
use Rattle.gs_rules.specs.Peers.{links_of}
use Rattle.gs_rules.specs.Tables.{Entries, last_moment, up}
use Rattle.gs_rules.specs.Modes.{exact}
use Rattle.gs_rules.specs.Legal.{Comes, LegalOn}
use Rattle.gs_rules.specs.Saying.{gathered, handled, out}
use Rattle.gs_rules.specs.Hearing.{Spell, after, bytes_before, closes}
use Rattle.gs_rules.specs.Rounds.{Seat, Phase, Playing, Closing, AfterRounds, moment_of}
use Rattle.gs_router.specs.Router.{RouterView}
use Rattle.gs_peer.specs.declared.outboxes.Outboxes.{Outboxes}
use Rattle.gs_player.specs.Ended.{close_if, closes_in, whole}
use Rattle.gs_peer.specs.Phases.{rounds_ended}
use Rattle.gs_peer.specs.Inboxes.{InboxView, is_full, peers_of}
use Rattle.gs_peer.specs.Outboxes.{gathered_in, is_open, waiting}

-- ---- what comes from one neighbour

-- all is taken that is heard in a phase
abbrev pub is_whole : Phase → Said → Bool
is_whole (Playing r) w = whole r w
is_whole Closing w = closes w

-- in a round, only a close may be taken after what is heard in it
abbrev pub NothingAfter : Phase → Said → Bool → Type 0
NothingAfter (Playing r) w closed = after r w ≡ close_if closed
NothingAfter Closing w closed = Unit {0}

-- in a round, what is heard ends with a close if a close is taken
abbrev pub ClosesHere : Phase → Said → Bool → Type 0
ClosesHere (Playing r) w closed = closes_in r w ≡ closed
ClosesHere Closing w closed = Unit {0}

-- An inbox in a phase, where the peer has the trace `L` and `said` was taken from the neighbour.
pub record InboxKept (seat : Seat) (phase : Phase) (L : Entries) (said : Said) (x : InboxView) : Type 0 where
  -- the rounds that were heard have ended
  pub stable : whole (rounds_ended seat phase) said ≡ true
  pub full : is_whole phase said ≡ is_full x
  pub closed : closes said ≡ x.is_closed
  pub rest : NothingAfter phase said x.is_closed
  pub here : ClosesHere phase said x.is_closed
  -- what was handled is what was said in those rounds; together with what is staged it is all that was taken
  pub earlier : Spell (bytes_before (rounds_ended seat phase) said) (handled L x.peer)
  pub read : HasRead longest_body (bytes_of said) x.reader (handled L x.peer ++ x.stage)

-- ---- what goes to one neighbour

-- What was accepted and then what waits is what the trace says. What is gathered is what the trace has gathered. More may be
-- said while the neighbour is up.
pub record BoxKept (L : Entries) (sent : Said) (boxes : Outboxes) (q : PeerNo) : Type 0 where
  pub is_open : is_open boxes q ≡ up L q
  pub says : sent ++ flat (waiting boxes q) ≡ out codec L q
  pub gathers : gathered_in boxes q ≡ gathered codec L q

-- ---- all of it

-- the rounds before a phase were played; in the phase after the last round the peer has shut down
abbrev pub Begun : Seat → (PeerNo → Said) → Phase → Entries → List RefusedLine → Type 0
Begun seat said (Playing r) L refused = (r ≤ seat.rounds) × AfterRounds seat said r L refused
Begun seat said Closing L refused =
    (K : Entries)
    × AfterRounds seat said (suc seat.rounds) K refused
    × Comes seat.peer (moment_of seat Closing) (Some Shut) K L

-- What a task keeps in a phase, where `said` was taken from its neighbours and `sent` was accepted for them.
pub record Kept (seat : Seat) (said sent : PeerNo → Said) (phase : Phase) (inboxes : List InboxView)
    (boxes : Outboxes) (v : RouterView) (refused : List RefusedLine) (first words : SeededState) : Type 0 where
  pub peer : v.peer ≡ seat.peer
  pub names : peers_of inboxes ≡ links_of seat.peer
  pub ascending : IsAscending (links_of seat.peer)
  pub running : v.is_stopped ≡ false
  pub time : last_moment v.trace ≤ (moment_of seat phase).0
  pub legal : LegalOn (exact seeded_word seeded_after) seat.peer first [] v.trace words
  pub begun : Begun seat said phase v.trace refused
  pub hears : AllByRecursion (λ (x : InboxView). InboxKept seat phase v.trace (said x.peer) x) inboxes
  pub says : AllByRecursion (λ q. BoxKept v.trace (sent q) boxes q) (links_of seat.peer)
