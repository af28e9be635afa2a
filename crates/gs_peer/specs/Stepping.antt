-- What a step of a task moves, and what the steps of a poll do.
use Rattle.std.specs.Prelude.{◌≡◌, ◌⊎◌, ◌<◌, ◌≤◌, ◌&&◌, ℕ, zero, suc, Bool, true, false, if◌then◌else◌, length}
use Rattle.gs_base.specs.declared.names.PeerNo.{PeerNo}
use Rattle.gs_link.specs.Flat.{flat}
use Rattle.gs_ends.specs.declared.ends.Ends.{Ghosts as EndsOf}
use Rattle.gs_peer.specs.declared.running.Running.{Running}
use Rattle.gs_peer.specs.Moved.{AllStay, GrewAt, MovesAt}
use Rattle.gs_peer.specs.Moves.{has_more_at, is_due, phase_after, turn_after, whose_turn}
use Rattle.gs_peer.specs.Outboxes.{waiting}

-- ---- the only things that change

-- the inboxes and the ends, and nothing else
abbrev pub OnlyListens : {G S : Type 0} → Running G S → Running G S → Type 0
OnlyListens old new =
    new ≡ record old { player = record old.player { inboxes = new.player.inboxes }; ends = new.ends }

-- the outboxes and the ends, and nothing else
abbrev pub OnlyOffers : {G S : Type 0} → Running G S → Running G S → Type 0
OnlyOffers old new = new ≡ record old { outboxes = new.outboxes; ends = new.ends }

-- the place of the inbox that was last seen not full, and nothing else
abbrev pub OnlyLooks : {G S : Type 0} → Running G S → Running G S → Type 0
OnlyLooks old new = new ≡ record old { last_not_full = new.last_not_full }

-- ---- a step

module _ {S : Type 0} (seen : EndsOf S) where
  -- Nothing moved: nothing was taken and nothing accepted, and what waits says what it said. No round was played, so the
  -- phase and the router stay, and so does all that was taken and not handled.
  pub record Still {G : Type 0} (old new : Running G S) : Type 0 where
    pub taken : AllStay (seen.taken old.ends) (seen.taken new.ends)
    pub accepted : AllStay (seen.accepted old.ends) (seen.accepted new.ends)
    pub says : (q : PeerNo) → flat (waiting new.outboxes q) ≡ flat (waiting old.outboxes q)
    pub phase : new.phase ≡ old.phase
    pub router : new.player.router ≡ old.player.router
    pub inboxes : new.player.inboxes.items ≡ old.player.inboxes.items

  -- the round was due, and was played
  abbrev pub PlaysDue : {G : Type 0} → Running G S → Running G S → Type 0
  PlaysDue old new = (is_due old ≡ true) × (new.phase ≡ phase_after old.assignment.rounds old.phase)

  -- One slot more was taken from the neighbour whose turn it was, or the round was due and was played. Or one slot more was
  -- accepted for that neighbour, or an empty frame that waited first for it was dropped.
  abbrev pub Moves : {G : Type 0} → Running G S → Running G S → Type 0
  Moves old new =
      GrewAt (whose_turn old) true (seen.taken old.ends) (seen.taken new.ends)
      ⊎ (PlaysDue old new
      ⊎ MovesAt (whose_turn old) true (seen.accepted old.ends) (seen.accepted new.ends)
      (waiting old.outboxes) (waiting new.outboxes))

  -- What holds after a step, which answers whether something moved.
  pub record StepsTo {G : Type 0} (moved : Bool) (old new : Running G S) : Type 0 where
    pub still : moved ≡ false → Still old new
    pub moves : moved ≡ true → Moves old new
    -- A round that was due was played, and so was one that became due in this step. A round that is due after the step is
    -- the next one. Where nothing moved, none is due.
    pub plays : is_due old ≡ true → PlaysDue old new
    pub at_once : is_due new ≡ true → new.phase ≡ phase_after old.assignment.rounds old.phase
    pub none_due : moved ≡ false → is_due new ≡ false
    -- the neighbour keeps its turn where something moved and more may move
    pub turn : new.turn ≡ turn_after old.turn (length new.player.inboxes.items) (moved && has_more_at new old.turn)

-- ---- a poll

module _ {S : Type 0} (seen : EndsOf S) where
  -- this many steps lead from `old` to `new`, and nothing moved in the last `idle` of them
  abbrev pub Steps : {G : Type 0} → ℕ → ℕ → Running G S → Running G S → Type 0
  Steps zero idle old new = (idle ≡ 0) × (new ≡ old)
  Steps {G} (suc k) idle old new =
      (mid : Running G S) × (before : ℕ) × (moved : Bool)
      × Steps k before old mid
      × StepsTo seen moved mid new
      × (idle ≡ (if moved then 0 else suc before))

  -- A poll takes at most `most` steps. It takes fewer where nothing moved in more steps in a row than there are neighbours.
  -- Then each neighbour was looked at, and no round is due.
  pub record Polls {G : Type 0} (most : ℕ) (old new : Running G S) : Type 0 where
    pub count : ℕ
    pub bounded : count ≤ most
    pub idle : ℕ
    pub steps : Steps count idle old new
    pub ends : (count ≡ most) ⊎ (length new.player.inboxes.items < idle)
    pub none_due : (count ≡ most) ⊎ (is_due new ≡ false)
