-- What a running task keeps, and what holds after a step of it.
use Rattle.std.specs.Prelude.{◌≡◌, ◌<◌, ◌+◌, ◌*◌, ◌^◌, ◌++◌, ℕ, true, false, List, [], length}
use Rattle.std.specs.List.{AllByRecursion}
use Rattle.gs_base.specs.declared.names.PeerNo.{PeerNo}
use Rattle.gs_base.specs.Tokens.{Said}
use Rattle.gs_params.specs.Picks.{IsAscending}
use Rattle.gs_params.specs.Seeding.{SeededState}
use Rattle.gs_rules.specs.declared.trace.Entry.{Entry}
use Rattle.gs_rules.specs.Peers.{Peer, links_of}
use Rattle.gs_rules.specs.Tables.{Entries}
use Rattle.gs_rules.specs.Rounds.{Seat}
use Rattle.gs_router.specs.Router.{RouterView}
use Rattle.gs_ends.specs.Ends.{has}
use Rattle.gs_ends.specs.declared.ends.Ends.{Ghosts as EndsOf}
use Rattle.gs_peer.specs.declared.assignment.Assignment.{Assignment}
use Rattle.gs_peer.specs.declared.outboxes.Outboxes.{Outboxes}
use Rattle.gs_peer.specs.declared.phase.Phase.TheVariants.{Closing}
use Rattle.gs_peer.specs.declared.finished_task.FinishedTask.{FinishedTask}
use Rattle.gs_peer.specs.declared.running.Running.{Running}
use Rattle.gs_peer.specs.declared.finished_task.FinalState.{FinalState}
use Rattle.gs_peer.specs.Inboxes.{InboxView, is_full}
use Rattle.gs_peer.specs.Kept.{BoxKept, Kept}
use Rattle.gs_peer.specs.Life.{words_of}
use Rattle.gs_peer.specs.Outboxes.{waiting}
use Rattle.gs_peer.specs.Phases.{phase_of}

-- what a run gives the peer `p` that has this assignment
abbrev pub seat_with : Assignment → Peer → Seat
seat_with a p = record { number = a.number; peer = p; lines = a.lines; round_ms = a.round_ms; rounds = a.rounds; phase_ms = a.phase_ms }

abbrev pub seat_of : {G S : Type 0} → Running G S → Seat
seat_of t = seat_with t.assignment t.player.router.peer

-- all is taken that is heard in this phase
abbrev pub AllFull : List InboxView → Type 0
AllFull inboxes = AllByRecursion (λ (x : InboxView). is_full x ≡ true) inboxes

-- nothing waits for any of these
abbrev pub AllSilent : Outboxes → List InboxView → Type 0
AllSilent boxes inboxes = AllByRecursion (λ (x : InboxView). waiting boxes x.peer ≡ []) inboxes

-- What the trace says after its first `told` entries is queued for the neighbours.
abbrev pub TellsSince : ℕ → Entries → Outboxes → Outboxes → Type 0
TellsSince told L old new =
    (K : Entries) (sent : PeerNo → Said) (qs : List PeerNo)
    → length K ≡ told
    → (entries : List Entry) × (L ≡ entries ++ K)
    → AllByRecursion (λ q. BoxKept K (sent q) old q) qs
    → AllByRecursion (λ q. BoxKept L (sent q) new q) qs

module _ {S : Type 0} (seen : EndsOf S) where
  -- What a peer that has done nothing may be given.
  pub record MayBegin (a : Assignment) (router : RouterView) (ends : S) : Type 0 where
    pub small : a.rounds * a.round_ms + a.phase_ms < 2 ^ 64
    pub neighbours : a.neighbours.items ≡ links_of router.peer
    pub ascending : IsAscending (links_of router.peer)
    pub known : AllByRecursion (λ q. has (seen.joints ends) q ≡ true) (links_of router.peer)
    pub fresh : router.trace ≡ []
    pub running : router.is_stopped ≡ false
    pub none_accepted : (q : PeerNo) → seen.accepted ends q ≡ []
    pub none_taken : (q : PeerNo) → seen.taken ends q ≡ []

  -- What a running task keeps.
  pub record IsKept {G : Type 0} (t : Running G S) : Type 0 where
    pub small : t.assignment.rounds * t.assignment.round_ms + t.assignment.phase_ms < 2 ^ 64
    -- there are ends to and from each neighbour
    pub known : AllByRecursion (λ q. has (seen.joints t.ends) q ≡ true) (links_of t.player.router.peer)
    pub kept : Kept (seat_of t) (words_of (seen.taken t.ends)) (words_of (seen.accepted t.ends)) (phase_of t.phase)
        t.player.inboxes.items t.outboxes t.player.router t.player.refused.items t.first.value t.player.words

  -- After a step the task still keeps what it must keep, and what it was given stays.
  pub record Goes {G : Type 0} (old new : Running G S) : Type 0 where
    pub kept : IsKept new
    pub seat : seat_of new ≡ seat_of old
    pub first : new.first.value ≡ old.first.value
    pub same_ends : seen.joints new.ends ≡ seen.joints old.ends

-- A task that has just begun.
pub record IsFresh {G S : Type 0} (a : Assignment) (router : RouterView) (words : SeededState) (ends : S)
    (t : Running G S) : Type 0 where
  pub seat : seat_of t ≡ seat_with a router.peer
  pub first : t.first.value ≡ words
  pub given : t.ends ≡ ends

-- The peer has shut down, each neighbour has closed, and all that was said is accepted.
pub record IsOver {G S : Type 0} (t : Running G S) : Type 0 where
  pub phase : t.phase ≡ Closing
  pub full : AllFull t.player.inboxes.items
  pub silent : AllSilent t.outboxes t.player.inboxes.items

-- what remains of a task's run, with this final state of its router
abbrev pub left_of : {G S : Type 0} → Running G S → FinalState → FinishedTask S
left_of t state = record {
  trace = t.player.router.trace;
  refused = t.player.refused.items;
  meshes = state.meshes;
  scores = state.scores;
  ends = t.ends;
}
