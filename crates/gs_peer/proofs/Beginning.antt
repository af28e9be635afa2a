-- What a task keeps that has just begun.
use Rattle.std.proofs.Common.{◌≡◌, true, false, List, [], ◌∷◌, ◌++◌, map, None, refl, sym, ap, ap₂, subst, subst₂, ◌∙◌, arith}
use Rattle.std.specs.List.{AllByRecursion}
use Rattle.gs_base.specs.declared.names.PeerNo.{PeerNo}
use Rattle.gs_base.specs.Tokens.{Said}
use Rattle.gs_params.specs.Picks.{IsAscending}
use Rattle.gs_params.specs.Seeding.{SeededState}
use Rattle.gs_wire.specs.Messages.{longest_body}
use Rattle.gs_wire.proofs.Readers.{read_nothing}
use Rattle.gs_link.specs.declared.item.Slot.{Slot}
use Rattle.gs_link.specs.Flat.{flat}
use Rattle.gs_rules.specs.declared.refusal.RefusedLine.{RefusedLine}
use Rattle.gs_rules.specs.Peers.{links_of}
use Rattle.gs_rules.specs.Tables.{Entries}
use Rattle.gs_rules.specs.Rounds.{Seat, Playing}
use Rattle.gs_rules.proofs.Handled.{no_bytes}
use Rattle.gs_router.specs.Router.{RouterView}
use Rattle.gs_peer.specs.declared.outboxes.Outboxes.{Outboxes}
use Rattle.gs_peer.specs.Inboxes.{InboxView, new_inbox, peers_of}
use Rattle.gs_peer.specs.Kept.{BoxKept, InboxKept, Kept}
use Rattle.gs_peer.specs.Outboxes.{gathered_in, is_open, waiting}

peers_new : (qs : List PeerNo) → peers_of (map new_inbox qs) ≡ qs
peers_new [] = refl
peers_new (q ∷ qs) = ap (λ (ps : List PeerNo). q ∷ ps) (peers_new qs)

inbox_new : (seat : Seat) (q : PeerNo) → InboxKept seat (Playing 0) [] [] (new_inbox q)
inbox_new seat q = record {
  stable = refl;
  full = refl;
  closed = refl;
  rest = refl;
  here = refl;
  earlier = no_bytes;
  read = read_nothing longest_body;
}

inboxes_new : (seat : Seat) (said : PeerNo → Said) (qs : List PeerNo) → ((q : PeerNo) → said q ≡ []) → AllByRecursion (λ (x : InboxView). InboxKept seat (Playing 0) [] (said x.peer) x) (map new_inbox qs)
inboxes_new seat said [] none = tt
inboxes_new seat said (q ∷ qs) none = (subst (λ (w : Said). InboxKept seat (Playing 0) [] w (new_inbox q)) (sym (none q)) (inbox_new seat q), inboxes_new seat said qs none)

boxes_new : (sent : PeerNo → Said) (boxes : Outboxes) (qs : List PeerNo) → ((q : PeerNo) → sent q ≡ []) → ((q : PeerNo) → waiting boxes q ≡ []) → ((q : PeerNo) → gathered_in boxes q ≡ None) → AllByRecursion (λ q. is_open boxes q ≡ true) qs → AllByRecursion (λ q. BoxKept [] (sent q) boxes q) qs
boxes_new sent boxes [] none silent nothing opens = tt
boxes_new sent boxes (q ∷ qs) none silent nothing opens =
    (record { is_open = opens.0; says = ap₂ (λ (w : Said) (xs : List Slot). w ++ flat xs) (none q) (silent q); gathers = nothing q }, boxes_new sent boxes qs none silent nothing opens.1)

-- the trace is empty, and no word was drawn
abbrev IsNew : Seat → (PeerNo → Said) → (PeerNo → Said) → List InboxView → Outboxes → List RefusedLine → SeededState → RouterView → Entries → SeededState → Type 0
IsNew seat said sent xs boxes refused words v L first = Kept seat said sent (Playing 0) xs boxes (record v { trace = L }) refused first words

pub kept_new : (seat : Seat) (said sent : PeerNo → Said) (xs : List InboxView) (boxes : Outboxes) (v : RouterView) (refused : List RefusedLine) (first words : SeededState)
    → v.peer ≡ seat.peer
    → IsAscending (links_of seat.peer)
    → v.trace ≡ []
    → v.is_stopped ≡ false
    → first ≡ words
    → ((q : PeerNo) → said q ≡ [])
    → ((q : PeerNo) → sent q ≡ [])
    → xs ≡ map new_inbox (links_of seat.peer)
    → AllByRecursion (λ q. is_open boxes q ≡ true) (links_of seat.peer)
    → ((q : PeerNo) → waiting boxes q ≡ [])
    → ((q : PeerNo) → gathered_in boxes q ≡ None)
    → refused ≡ []
    → Kept seat said sent (Playing 0) xs boxes v refused first words
kept_new seat said sent xs boxes v refused first words peer ascending fresh running undrawn no_said no_sent inboxes opens silent nothing none =
    subst₂ (IsNew seat said sent xs boxes refused words v) (sym fresh) (sym undrawn) (record {
      peer = peer;
      names = ap peers_of inboxes ∙ peers_new (links_of seat.peer);
      ascending = ascending;
      running = running;
      time = omega arith;
      legal = refl;
      begun = (omega arith, (refl, none));
      hears = subst (AllByRecursion (λ (x : InboxView). InboxKept seat (Playing 0) [] (said x.peer) x)) (sym inboxes) (inboxes_new seat said (links_of seat.peer) no_said);
      says = boxes_new sent boxes (links_of seat.peer) no_sent silent nothing opens;
    })
