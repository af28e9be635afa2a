-- What a task keeps about what comes from a neighbour, and how that changes.
use Rattle.std.specs.Prelude.{◌≡◌, ◌⊎◌, ℕ, zero, suc, Bool, true, false, not, ◌&&◌, ◌||◌, nat_eq, if◌then◌else◌, List, [], ◌∷◌, ◌++◌, length, map, Some, is_none, unwrap_or}
use Rattle.std.specs.List.{flat_map}
use Rattle.gs_base.specs.declared.names.PeerNo.{PeerNo}
use Rattle.gs_base.specs.declared.rpc.Rpc.{Rpc}
use Rattle.gs_wire.specs.Messages.{longest_body}
use Rattle.gs_wire.specs.Stream.{Holding, FeedsOnce}
use Rattle.gs_link.specs.declared.item.Slot.{Slot}
use Rattle.gs_link.specs.declared.item.Slot.TheVariants as slots
use Rattle.gs_rules.specs.Rounds.{Phase, Playing, Closing, Todo, Hear, HearFault, HearGone}

pub record InboxView : Type 0 where
  pub peer : PeerNo
  pub reader : Holding
  -- the RPCs that were taken and not handled
  pub stage : List Rpc
  -- all is taken that is heard in this phase, up to the end of a round
  pub is_marked : Bool
  -- the close was taken
  pub is_closed : Bool

-- an inbox for which nothing was taken; it is marked, since in the first round there is nothing to hear
abbrev pub new_inbox : PeerNo → InboxView
new_inbox q = record {
  peer = q;
  reader = record { limit = longest_body; held = Some [] };
  stage = [];
  is_marked = true;
  is_closed = false;
}

-- ---- what there is to hear

-- its bytes spell no RPC, or end within one
abbrev pub is_broken_off : InboxView → Bool
is_broken_off x = is_none x.reader.held || (x.is_closed && not (nat_eq (length (unwrap_or x.reader.held [])) 0))

-- how hearing it ends
abbrev pub ending_of : InboxView → List Todo
ending_of x = if is_broken_off x then HearFault x.peer ∷ [] else if x.is_closed then HearGone x.peer ∷ [] else []

-- what there is to hear from it
abbrev pub heard_of : InboxView → List Todo
heard_of x = map (Hear x.peer) x.stage ++ ending_of x

-- what there is to hear from each, one neighbour after the other
abbrev pub all_heard : List InboxView → List Todo
all_heard inboxes = flat_map heard_of inboxes

-- the neighbours, in order
abbrev pub peers_of : List InboxView → List PeerNo
peers_of inboxes = map (λ (x : InboxView). x.peer) inboxes

-- all is taken that is heard in this phase
abbrev pub is_full : InboxView → Bool
is_full x = x.is_marked || x.is_closed

-- ---- what is taken

-- the end of this round ends what is heard in a phase: in a round, that is the end of the round before
abbrev pub is_mark : Phase → ℕ → Bool
is_mark (Playing zero) k = false
is_mark (Playing (suc r)) k = nat_eq k r
is_mark Closing k = false

-- a piece is read, and the RPCs that are complete with it are staged
abbrev pub FeedsPiece : InboxView → List ℕ → InboxView → Type 0
FeedsPiece old bytes new =
    (reader : Holding) × (found : List Rpc)
    × FeedsOnce old.reader bytes reader found
    × (new ≡ record old { reader = reader; stage = old.stage ++ found })

-- how an inbox changes when a slot is taken
abbrev pub Reads : Phase → InboxView → Slot → InboxView → Type 0
Reads phase old (slots.Piece bytes) new = FeedsPiece old bytes new
Reads phase old (slots.Round k) new = new ≡ record old { is_marked = is_mark phase k }
Reads phase old slots.Close new = new ≡ record old { is_closed = true }

-- nothing is taken, or one slot
abbrev pub Listens : Phase → List Slot → List Slot → InboxView → InboxView → Type 0
Listens phase before after old new =
    ((after ≡ before) × (new ≡ old)) ⊎ ((slot : Slot) × (after ≡ before ++ slot ∷ []) × Reads phase old slot new)

-- ---- a phase is over

-- what was staged is handled, and nothing that is heard in the next phase is taken yet
abbrev pub in_next_phase : InboxView → InboxView
in_next_phase x = record x { stage = []; is_marked = false }
