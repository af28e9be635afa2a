-- Which neighbours have something to move, and whose turn is next.
use Rattle.std.specs.Prelude.{ℕ, suc, Bool, true, false, not, ◌&&◌, ◌||◌, ◌==◌, ◌+◌, nat_lt, if◌then◌else◌, List, length, Option, slice_get, option_map, unwrap_or}
use Rattle.std.specs.List.{list_all}
use Rattle.gs_base.specs.declared.names.PeerNo.{PeerNo}
use Rattle.gs_peer.specs.declared.outboxes.Outboxes.{Outboxes}
use Rattle.gs_peer.specs.declared.phase.Phase.{Phase}
use Rattle.gs_peer.specs.declared.phase.Phase.TheVariants.{Playing, Closing}
use Rattle.gs_peer.specs.declared.running.Running.{Running}
use Rattle.gs_peer.specs.Inboxes.{InboxView, is_full}
use Rattle.gs_peer.specs.Outboxes.{waiting}

-- ---- who has something to move

-- all is taken that is heard from each neighbour in this phase
abbrev pub are_full : List InboxView → Bool
are_full inboxes = list_all is_full inboxes

-- all is taken that is heard from the neighbour at this place in this phase, or no neighbour is there
abbrev pub is_full_at : List InboxView → ℕ → Bool
is_full_at inboxes k = unwrap_or (option_map is_full (slice_get inboxes k)) true

-- nothing waits for a peer
abbrev pub is_silent : Outboxes → PeerNo → Bool
is_silent out q = length (waiting out q) == 0

-- nothing waits for any of these
abbrev pub are_silent : Outboxes → List InboxView → Bool
are_silent out inboxes = list_all (λ (x : InboxView). is_silent out x.peer) inboxes

-- more is to be taken from this neighbour, or something waits for it
abbrev pub has_more : Outboxes → InboxView → Bool
has_more out x = not (is_full x) || not (is_silent out x.peer)

-- the same for the neighbour at this place, if there is one
abbrev pub has_more_at : {G S : Type 0} → Running G S → ℕ → Bool
has_more_at t place = unwrap_or (option_map (has_more t.outboxes) (slice_get t.player.inboxes.items place)) false

-- the peer has shut down
abbrev pub is_closing : Phase → Bool
is_closing (Playing r) = false
is_closing Closing = true

-- a round is due: the peer is in it, and all is taken that is heard in it
abbrev pub is_due : {G S : Type 0} → Running G S → Bool
is_due t = not (is_closing t.phase) && are_full t.player.inboxes.items

-- what comes after a phase, where this is the last round: the next round, or the peer shuts down
abbrev pub phase_after : ℕ → Phase → Phase
phase_after last (Playing r) = if nat_lt r last then Playing (r + 1) else Closing
phase_after last Closing = Closing

-- the peer has shut down, each neighbour has closed, and all that was said is accepted
abbrev pub is_over : {G S : Type 0} → Running G S → Bool
is_over t = is_closing t.phase && (are_full t.player.inboxes.items && are_silent t.outboxes t.player.inboxes.items)

-- ---- turns

-- which neighbour stands at this place, if any does
abbrev pub peer_at : List InboxView → ℕ → Option PeerNo
peer_at inboxes place = option_map (λ (x : InboxView). x.peer) (slice_get inboxes place)

-- whose turn it is, if it is a neighbour's
abbrev pub whose_turn : {G S : Type 0} → Running G S → Option PeerNo
whose_turn t = peer_at t.player.inboxes.items t.turn

-- whose turn is next among this many neighbours: after the last one a step looks at none, and then the first is next again
abbrev pub turn_after : ℕ → ℕ → Bool → ℕ
turn_after turn neighbours stays = if stays then turn else if nat_lt turn neighbours then suc turn else 0
