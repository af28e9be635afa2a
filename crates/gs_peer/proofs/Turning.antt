-- A phase is over, and the next one begins.
use Rattle.std.proofs.Common.{◌≡◌, ℕ, suc, Bool, true, false, List, [], ◌∷◌, ◌++◌, map, refl, sym, ap, subst, ◌∙◌, append-nil}
use Rattle.std.specs.List.{AllByRecursion}
use Rattle.gs_base.specs.declared.names.PeerNo.{PeerNo}
use Rattle.gs_base.specs.declared.rpc.Rpc.{Rpc}
use Rattle.gs_base.specs.Tokens.{Said, bytes_of}
use Rattle.gs_params.specs.Picks.{IsAscending}
use Rattle.gs_params.proofs.Picking.{distinct_from_ascending}
use Rattle.gs_wire.specs.Messages.{longest_body}
use Rattle.gs_wire.specs.Stream.{HasRead}
use Rattle.gs_rules.specs.declared.refusal.RefusedLine.{RefusedLine}
use Rattle.gs_rules.specs.Peers.{links_of}
use Rattle.gs_rules.specs.Tables.{Entries}
use Rattle.gs_rules.specs.Legal.{Legal}
use Rattle.gs_rules.specs.Saying.{handled}
use Rattle.gs_rules.specs.Hearing.{Spell, after, behind, bytes_before, closes, front}
use Rattle.gs_rules.specs.Rounds.{Seat, Playing, Closing, AfterRounds}
use Rattle.gs_rules.proofs.Each.{each_weaker}
use Rattle.gs_rules.proofs.Handled.{StandsOnce, distinct_once, rounds_handle, spelled_once}
use Rattle.gs_player.specs.Ended.{close_if, ends, whole}
use Rattle.gs_peer.specs.Inboxes.{InboxView, in_next_phase, is_full, peers_of}
use Rattle.gs_peer.specs.Kept.{InboxKept}
use Rattle.gs_peer.proofs.Inbound.{all_before}
use Rattle.gs_player.proofs.Words.{and_same}

-- ---- one neighbour

ends_close : (r : ℕ) (b : Bool) → ends r (close_if b) ≡ b
ends_close r true = refl
ends_close r false = refl

behind_close : (r : ℕ) (b : Bool) → behind r (close_if b) ≡ close_if b
behind_close r true = refl
behind_close r false = refl

closes_close : (r : ℕ) (b : Bool) → closes (front r (close_if b)) ≡ b
closes_close r true = refl
closes_close r false = refl

-- what the reader has read is handled then
all_handled : (seat : Seat) (r : ℕ) (K L : Entries) (said : Said) (x : InboxView)
    → InboxKept seat (Playing r) K said x
    → Spell (bytes_before r said) (handled L x.peer)
    → HasRead longest_body (bytes_of said) x.reader (handled L x.peer ++ [])
all_handled seat r K L said x k spell =
    let all : Spell (bytes_of said) (handled L x.peer) = subst (λ (bytes : List ℕ). Spell bytes (handled L x.peer)) (sym (all_before seat r K said x k)) spell in
    let same : handled K x.peer ++ x.stage ≡ handled L x.peer = spelled_once (bytes_of said) (handled K x.peer ++ x.stage) (handled L x.peer) (k.read.rest, k.read.end, k.read.stream) all in
    subst (λ (vs : List Rpc). HasRead longest_body (bytes_of said) x.reader vs) (same ∙ sym (append-nil (handled L x.peer))) k.read

-- the next round
turns_round : (seat : Seat) (r : ℕ) (K L : Entries) (said : Said) (x : InboxView)
    → InboxKept seat (Playing r) K said x
    → is_full x ≡ true
    → Spell (bytes_before r said) (handled L x.peer)
    → InboxKept seat (Playing (suc r)) L said (in_next_phase x)
turns_round seat r K L said x k full spell =
    let ended : whole r said ≡ true = k.full ∙ full in
    record {
      stable = ended;
      full = and_same (whole r said) (ends r (after r said)) ended ∙ ap (ends r) k.rest ∙ ends_close r x.is_closed;
      closed = k.closed;
      rest = ap (behind r) k.rest ∙ behind_close r x.is_closed;
      here = ap (λ (w : Said). closes (front r w)) k.rest ∙ closes_close r x.is_closed;
      earlier = spell;
      read = all_handled seat r K L said x k spell;
    }

-- what is kept of an inbox where the last round is over
turns_last : (seat : Seat) (K L : Entries) (said : Said) (x : InboxView)
    → InboxKept seat (Playing seat.rounds) K said x
    → is_full x ≡ true
    → Spell (bytes_before seat.rounds said) (handled L x.peer)
    → InboxKept seat Closing L said (in_next_phase x)
turns_last seat K L said x k full spell = record {
  stable = k.full ∙ full;
  full = k.closed;
  closed = k.closed;
  rest = tt;
  here = tt;
  earlier = spell;
  read = all_handled seat seat.rounds K L said x k spell;
}

-- ---- all of them

pub all_full_by : {A : Type 0} (f : A → Bool) (P : A → Type 0) (Q : A → Type 0) → ((x : A) → P x → f x ≡ true → Q x) → (xs : List A) → AllByRecursion P xs → AllByRecursion (λ x. f x ≡ true) xs → AllByRecursion Q xs
all_full_by f P Q g [] h k = tt
all_full_by f P Q g (x ∷ xs) h k = (g x h.0 k.0, all_full_by f P Q g xs h.1 k.1)

each_map : {A : Type 0} (P Q : A → Type 0) (f : A → A) → ((x : A) → P x → Q (f x)) → (xs : List A) → AllByRecursion P xs → AllByRecursion Q (map f xs)
each_map P Q f h [] k = tt
each_map P Q f h (x ∷ xs) k = (h x k.0, each_map P Q f h xs k.1)

pub peers_in_next_phase : (xs : List InboxView) → peers_of (map in_next_phase xs) ≡ peers_of xs
peers_in_next_phase [] = refl
peers_in_next_phase (x ∷ xs) = ap (λ (qs : List PeerNo). x.peer ∷ qs) (peers_in_next_phase xs)

-- what the rounds so far have handled of each neighbour
pub rounds_spell : (seat : Seat) (said : PeerNo → Said) (r : ℕ) (L : Entries) (refused : List RefusedLine)
    → IsAscending (links_of seat.peer)
    → AfterRounds seat said (suc r) L refused
    → Legal seat.peer L
    → AllByRecursion (λ q. Spell (bytes_before r (said q)) (handled L q)) (links_of seat.peer)
rounds_spell seat said r L refused ascending played legal =
    each_weaker (λ q. StandsOnce q (links_of seat.peer)) (λ q. Spell (bytes_before r (said q)) (handled L q))
    (λ q once. rounds_handle seat said q (suc r) L refused once played legal) (links_of seat.peer)
    (distinct_once (links_of seat.peer) (distinct_from_ascending (links_of seat.peer) ascending))

all_turn_round : (seat : Seat) (r : ℕ) (K L : Entries) (said : PeerNo → Said) (xs : List InboxView)
    → AllByRecursion (λ (x : InboxView). InboxKept seat (Playing r) K (said x.peer) x) xs
    → AllByRecursion (λ x. is_full x ≡ true) xs
    → AllByRecursion (λ q. Spell (bytes_before r (said q)) (handled L q)) (peers_of xs)
    → AllByRecursion (λ (x : InboxView). InboxKept seat (Playing (suc r)) L (said x.peer) x) (map in_next_phase xs)
all_turn_round seat r K L said [] k full spell = tt
all_turn_round seat r K L said (x ∷ xs) k full spell =
    (turns_round seat r K L (said x.peer) x k.0 full.0 spell.0, all_turn_round seat r K L said xs k.1 full.1 spell.1)

all_turn_last : (seat : Seat) (K L : Entries) (said : PeerNo → Said) (xs : List InboxView)
    → AllByRecursion (λ (x : InboxView). InboxKept seat (Playing seat.rounds) K (said x.peer) x) xs
    → AllByRecursion (λ x. is_full x ≡ true) xs
    → AllByRecursion (λ q. Spell (bytes_before seat.rounds (said q)) (handled L q)) (peers_of xs)
    → AllByRecursion (λ (x : InboxView). InboxKept seat Closing L (said x.peer) x) (map in_next_phase xs)
all_turn_last seat K L said [] k full spell = tt
all_turn_last seat K L said (x ∷ xs) k full spell =
    (turns_last seat K L (said x.peer) x k.0 full.0 spell.0, all_turn_last seat K L said xs k.1 full.1 spell.1)

-- each inbox is right at the next round
pub inboxes_turn : (seat : Seat) (r : ℕ) (K L : Entries) (said : PeerNo → Said) (refused : List RefusedLine) (xs : List InboxView)
    → peers_of xs ≡ links_of seat.peer
    → IsAscending (links_of seat.peer)
    → AllByRecursion (λ (x : InboxView). InboxKept seat (Playing r) K (said x.peer) x) xs
    → AllByRecursion (λ x. is_full x ≡ true) xs
    → AfterRounds seat said (suc r) L refused
    → Legal seat.peer L
    → AllByRecursion (λ (x : InboxView). InboxKept seat (Playing (suc r)) L (said x.peer) x) (map in_next_phase xs)
inboxes_turn seat r K L said refused xs names ascending k full played legal =
    all_turn_round seat r K L said xs k full
    (subst (AllByRecursion (λ q. Spell (bytes_before r (said q)) (handled L q))) (sym names) (rounds_spell seat said r L refused ascending played legal))

-- and after the last one, where the peer has handled nothing more since
pub inboxes_close : (seat : Seat) (K L M : Entries) (said : PeerNo → Said) (refused : List RefusedLine) (xs : List InboxView)
    → peers_of xs ≡ links_of seat.peer
    → IsAscending (links_of seat.peer)
    → AllByRecursion (λ (x : InboxView). InboxKept seat (Playing seat.rounds) K (said x.peer) x) xs
    → AllByRecursion (λ x. is_full x ≡ true) xs
    → AfterRounds seat said (suc seat.rounds) L refused
    → Legal seat.peer L
    → ((q : PeerNo) → handled M q ≡ handled L q)
    → AllByRecursion (λ (x : InboxView). InboxKept seat Closing M (said x.peer) x) (map in_next_phase xs)
inboxes_close seat K L M said refused xs names ascending k full played legal same =
    all_turn_last seat K M said xs k full
    (subst (AllByRecursion (λ q. Spell (bytes_before seat.rounds (said q)) (handled M q))) (sym names)
    (each_same (links_of seat.peer) (rounds_spell seat said seat.rounds L refused ascending played legal)))
  where
    each_same : (qs : List PeerNo) → AllByRecursion (λ q. Spell (bytes_before seat.rounds (said q)) (handled L q)) qs → AllByRecursion (λ q. Spell (bytes_before seat.rounds (said q)) (handled M q)) qs
    each_same [] h = tt
    each_same (q ∷ qs) h = (subst (λ (vs : List Rpc). Spell (bytes_before seat.rounds (said q)) vs) (sym (same q)) h.0, each_same qs h.1)
