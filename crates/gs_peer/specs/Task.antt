-- What is known about a peer's task, wherever it may be suspended, and about what it gives.
use Rattle.std.specs.Prelude.{◌≡◌, true, false, ◌++◌, ℕ, List, [], Option, Some, None, Result, Ok, Err, MatchOption, MatchResult, ⊤}
use Rattle.std.specs.Arc.{arc_value}
use Rattle.std.specs.List.{AllByRecursion}
use Rattle.futures.specs.declared.task.Poll.{Poll}
use Rattle.futures.specs.declared.task.Poll.TheVariants.{Ready, Pending}
use Rattle.gs_base.specs.Tokens.{bytes_of}
use Rattle.gs_params.specs.Seeding.{SeededState, seeded_after, seeded_word}
use Rattle.gs_wire.specs.Codec.{codec}
use Rattle.gs_link.specs.Flat.{flat}
use Rattle.gs_rules.specs.Peers.{links_of}
use Rattle.gs_rules.specs.Modes.{exact}
use Rattle.gs_rules.specs.Legal.{LegalOn}
use Rattle.gs_rules.specs.Saying.{gathered, handled, out}
use Rattle.gs_rules.specs.Hearing.{Spell, bytes_before}
use Rattle.gs_rules.specs.Rounds.{Seat, Todo, KeepsSoFar}
use Rattle.gs_router.specs.Router.{RouterView}
use Rattle.gs_workers.specs.Flags.{FlagId}
use Rattle.gs_ends.specs.Ends.{GrewBy, Joint}
use Rattle.gs_ends.specs.declared.ends.Ends.{Ghosts as EndsOf}
use Rattle.gs_peer.specs.declared.assignment.Assignment.{Assignment}
use Rattle.gs_peer.specs.declared.finished_task.FinishedTask.{FinishedTask}
use Rattle.gs_peer.specs.declared.finished_task.PeerFault.{PeerFault}
use Rattle.gs_peer.specs.declared.finished_task.PeerFault.TheVariants.{Over}
use Rattle.gs_peer.specs.declared.running.Running.{Running}
use Rattle.gs_peer.specs.declared.task.PeerTask.{PeerTask}
use Rattle.gs_player.specs.Ended.{whole}
use Rattle.gs_peer.specs.Faults.{IsOfFlag}
use Rattle.gs_peer.specs.Inboxes.{InboxView, peers_of}
use Rattle.gs_peer.specs.Life.{IsLife, words_of}
use Rattle.gs_peer.specs.Moves.{is_over}
use Rattle.gs_peer.specs.Outboxes.{gathered_in, waiting}
use Rattle.gs_peer.specs.Phases.{phase_of, rounds_ended}
use Rattle.gs_peer.specs.Running.{IsKept, seat_of, seat_with}
use Rattle.gs_peer.specs.Stepping.{Polls}

-- ---- what stays

-- what no poll of a task changes: its `Seat`, the random words of its choices at first, and which links its ends belong to
abbrev pub given_of : {G S : Type 0} → (S → List Joint) → PeerTask G S → Option (Seat × SeededState × List Joint)
given_of joints task = elim task.running [ None ↦ None | Some t ↦ Some (seat_of t, t.first.value, joints t.ends) ]

-- the flag that stops it
abbrev pub flag_of : {G S : Type 0} → PeerTask G S → FlagId
flag_of task = arc_value task.stop

-- the task belongs to a peer that is given this
abbrev pub IsTaskOf : {G S : Type 0} → (S → List Joint)
    → Assignment → RouterView → SeededState → S → PeerTask G S → Type 0
IsTaskOf joints a router words ends task = given_of joints task ≡ Some (seat_with a router.peer, words, joints ends)

-- it has just these ends, with their lists
abbrev pub HasEnds : {G S : Type 0} → S → PeerTask G S → Type 0
HasEnds ends task = MatchOption task.running ⊥ (λ t. t.ends ≡ ends)

-- its ends belong to these links
abbrev pub HasJoints : {G S : Type 0} → (S → List Joint) → List Joint → PeerTask G S → Type 0
HasJoints joints of task = (seat : Seat) × (first : SeededState) × (given_of joints task ≡ Some (seat, first, of))

-- ---- wherever it may be suspended

module _ {G S : Type 0} (seen : EndsOf S) where
  -- What a task has done so far.
  pub record SoFar (t : Running G S) : Type 0 where
    -- each entry is allowed after those before it, with the choices that its words make
    pub legal : LegalOn (exact seeded_word seeded_after) (seat_of t).peer
        t.first.value [] t.player.router.trace t.player.words
    -- it has kept the rounds so far; `left` is what is left to do in its phase
    pub keeps : (left : List Todo) × KeepsSoFar (seat_of t) (words_of (seen.taken t.ends)) (phase_of t.phase) left
        t.player.router.trace t.player.refused.items
    -- what was handled from each neighbour, and then what is staged, are the RPCs of the bytes that were taken from it
    pub names : peers_of t.player.inboxes.items ≡ links_of (seat_of t).peer
    pub hears : AllByRecursion (λ (x : InboxView).
        Spell (bytes_of (words_of (seen.taken t.ends) x.peer)) (handled t.player.router.trace x.peer ++ x.stage))
        t.player.inboxes.items
    -- what was accepted for each neighbour, and then what waits, is what the trace says to it
    pub says : AllByRecursion (λ q.
        words_of (seen.accepted t.ends) q ++ flat (waiting t.outboxes q) ≡ out codec t.player.router.trace q)
        (links_of (seat_of t).peer)
    -- nothing is gathered for any of them, neither in the outboxes nor by the trace
    pub none_gathered : AllByRecursion (λ q.
        (gathered_in t.outboxes q ≡ None) × (gathered codec t.player.router.trace q ≡ None))
        (links_of (seat_of t).peer)
    -- the rounds that were heard have ended in what was taken from each neighbour
    pub ended : AllByRecursion (λ q.
        whole (rounds_ended (seat_of t) (phase_of t.phase)) (words_of (seen.taken t.ends) q) ≡ true)
        (links_of (seat_of t).peer)
    -- what was handled from each neighbour is what it said in those rounds, and nothing from the round that it is in
    pub rounds : AllByRecursion (λ q.
        Spell (bytes_before (rounds_ended (seat_of t) (phase_of t.phase)) (words_of (seen.taken t.ends) q))
        (handled t.player.router.trace q))
        (links_of (seat_of t).peer)

-- ---- a poll

-- The fault of a running task is evidence that its flag was set. The fault of a task that has given its result is `Over`.
abbrev pub IsFaultOf : {G S : Type 0} → PeerTask G S → PeerFault → Type 0
IsFaultOf task fault = MatchOption task.running (fault ≡ Over) (λ t. IsOfFlag (flag_of task) fault)

module _ {G S : Type 0} (seen : EndsOf S) where
  -- it keeps what a running task keeps, or it has given its result
  abbrev pub CanPoll : PeerTask G S → Type 0
  CanPoll task = MatchOption task.running ⊤ (λ t. IsKept seen t)

  -- it is suspended, and what it has done so far is known
  abbrev pub IsSuspended : PeerTask G S → Type 0
  IsSuspended task = MatchOption task.running ⊥ (λ t. SoFar seen t)

  -- what remains of a whole run with the task's `Seat`, its words and its ends; or a fault of the task
  abbrev pub Gives : PeerTask G S → Result (FinishedTask S) PeerFault → Type 0
  Gives task result = MatchResult result
      (λ f. (seat : Seat) × (first : SeededState)
      × (given_of seen.joints task ≡ Some (seat, first, seen.joints f.ends))
      × IsLife seen seat first f)
      (IsFaultOf task)

module _ {S : Type 0} (seen : EndsOf S) where
  -- over all neighbours at most this many slots were taken, and at most this many accepted
  abbrev pub BothGrew : ℕ → S → S → Type 0
  BothGrew most before after =
      GrewBy most (seen.accepted before) (seen.accepted after)
      × GrewBy most (seen.taken before) (seen.taken after)

  -- The bounds of what a poll takes and has accepted. Where the task is to be polled again, its steps are those of a poll, and
  -- its run is not over.
  abbrev pub Bounded : {G : Type 0}
      → ℕ → PeerTask G S → PeerTask G S → Poll (Result (FinishedTask S) PeerFault) → Type 0
  Bounded {G} most old new (Ready (Ok f)) =
      (t : Running G S) → old.running ≡ Some t → BothGrew most t.ends f.ends
  Bounded {G} most old new (Ready (Err e)) = Unit {0}
  Bounded {G} most old new Pending =
      (t : Running G S)
      → old.running ≡ Some t
      → (u : Running G S)
      × (new.running ≡ Some u)
      × BothGrew most t.ends u.ends
      × Polls seen most t u
      × (is_over u ≡ false)
