-- An inbox of which one slot more is taken.
use Rattle.std.proofs.Common.{◌≡◌, ℕ, zero, suc, Bool, true, false, ◌&&◌, ◌||◌, nat_eq, if◌then◌else◌, List, [], ◌∷◌, ◌++◌, map, refl, sym, ap, subst, subst₂, ◌∙◌, append_assoc, append-nil, true≢false}
use Rattle.gs_base.specs.declared.names.PeerNo.{PeerNo}
use Rattle.gs_base.specs.declared.rpc.Rpc.{Rpc}
use Rattle.gs_base.specs.Tokens.{Byte, EndOf, Close as Closed, Said, bytes_of}
use Rattle.gs_wire.specs.Messages.{longest_body}
use Rattle.gs_wire.specs.Stream.{HasRead, Holding}
use Rattle.gs_wire.proofs.Readers.{read_once}
use Rattle.gs_link.specs.declared.item.Slot.{Slot}
use Rattle.gs_link.specs.declared.item.Slot.TheVariants.{Piece, Round, Close}
use Rattle.gs_link.specs.Flat.{flat}
use Rattle.gs_rules.specs.Tables.{Entries}
use Rattle.gs_rules.specs.Saying.{handled}
use Rattle.gs_rules.specs.Hearing.{Spell, after, behind, closes, front}
use Rattle.gs_rules.specs.Rounds.{Seat, Phase, Playing, Closing}
use Rattle.gs_rules.proofs.Spelled.{bytes_of_append, bytes_of_bytes}
use Rattle.gs_player.specs.Ended.{close_if, ends, whole}
use Rattle.gs_peer.specs.Inboxes.{InboxView, Reads, is_full, is_mark}
use Rattle.gs_peer.specs.Kept.{InboxKept}
use Rattle.gs_player.proofs.Words.{after_stays, and_same, behind_goes, bytes_stay, closes_append, ends_goes, front_goes, whole_stays}

-- ---- what one slot says

ends_bytes : (k : ℕ) (bytes : List ℕ) → ends k (map Byte bytes) ≡ false
ends_bytes k [] = refl
ends_bytes k (b ∷ bytes) = ends_bytes k bytes

behind_bytes : (k : ℕ) (bytes : List ℕ) → behind k (map Byte bytes) ≡ []
behind_bytes k [] = refl
behind_bytes k (b ∷ bytes) = behind_bytes k bytes

front_bytes : (k : ℕ) (bytes : List ℕ) → front k (map Byte bytes) ≡ map Byte bytes
front_bytes k [] = refl
front_bytes k (b ∷ bytes) = ap (λ (w : Said). Byte b ∷ w) (front_bytes k bytes)

closes_bytes : (bytes : List ℕ) → closes (map Byte bytes) ≡ false
closes_bytes [] = refl
closes_bytes (b ∷ bytes) = closes_bytes bytes

-- what a slot says
abbrev pub said_by_slot : Slot → Said
said_by_slot (Piece bytes) = map Byte bytes
said_by_slot (Round r) = EndOf r ∷ []
said_by_slot Close = Closed ∷ []

pub flat_slot : (slot : Slot) → flat (slot ∷ []) ≡ said_by_slot slot
flat_slot (Piece bytes) = append-nil (map Byte bytes)
flat_slot (Round r) = refl
flat_slot Close = refl

if_same : (b : Bool) → (if b then true else false) ≡ b
if_same true = refl
if_same false = refl

abbrev silence : Said
silence = []

if_none : (b : Bool) → (if b then silence else silence) ≡ silence
if_none true = refl
if_none false = refl

or_false : (a b : Bool) → b ≡ false → (a || b) ≡ a
or_false true b h = refl
or_false false b h = h

or_true : (a : Bool) → (a || true) ≡ true
or_true true = refl
or_true false = refl

pub right_false : (a b : Bool) → (a || b) ≡ false → b ≡ false
right_false true b h = absurd (true≢false h)
right_false false b h = h

and_false : (a b : Bool) → a ≡ true → (a && b) ≡ false → b ≡ false
and_false true b h k = k
and_false false b h k = absurd (true≢false (sym h))

-- ---- what it makes of the inbox

-- what it says of the end of what is heard in a phase
abbrev EndsBy : Phase → Said → InboxView → Type 0
EndsBy (Playing zero) w new = Unit {0}
EndsBy (Playing (suc r)) w new = (ends r w ≡ is_full new) × (behind r w ≡ close_if new.is_closed) × (closes (front r w) ≡ new.is_closed)
EndsBy Closing w new = closes w ≡ is_full new

record SaysSo (phase : Phase) (w : Said) (new : InboxView) : Type 0 where
  closed : closes w ≡ new.is_closed
  ends_by : EndsBy phase w new

piece_says : (phase : Phase) (bytes : List ℕ) (new : InboxView) → is_full new ≡ false → new.is_closed ≡ false → SaysSo phase (map Byte bytes) new
piece_says phase bytes new waits runs = record { closed = closes_bytes bytes ∙ sym runs; ends_by = by phase }
  where
    by : (at : Phase) → EndsBy at (map Byte bytes) new
    by (Playing zero) = tt
    by (Playing (suc r)) = (
      ends_bytes r bytes ∙ sym waits,
      behind_bytes r bytes ∙ sym (ap close_if runs),
      ap closes (front_bytes r bytes) ∙ closes_bytes bytes ∙ sym runs,
    )
    by Closing = closes_bytes bytes ∙ sym waits

mark_says : (phase : Phase) (k : ℕ) (x : InboxView) → x.is_closed ≡ false → SaysSo phase (EndOf k ∷ []) (record x { is_marked = is_mark phase k })
mark_says phase k x runs = record { closed = sym runs; ends_by = by phase }
  where
    by : (at : Phase) → EndsBy at (EndOf k ∷ []) (record x { is_marked = is_mark at k })
    by (Playing zero) = tt
    by (Playing (suc r)) = (
      if_same (nat_eq k r) ∙ sym (or_false (nat_eq k r) x.is_closed runs),
      if_none (nat_eq k r) ∙ sym (ap close_if runs),
      ap closes (if_none (nat_eq k r)) ∙ sym runs,
    )
    by Closing = sym runs

close_says : (phase : Phase) (x : InboxView) → SaysSo phase (Closed ∷ []) (record x { is_closed = true })
close_says phase x = record { closed = refl; ends_by = by phase }
  where
    by : (at : Phase) → EndsBy at (Closed ∷ []) (record x { is_closed = true })
    by (Playing zero) = tt
    by (Playing (suc r)) = (sym (or_true x.is_marked), refl, refl)
    by Closing = sym (or_true x.is_marked)

-- ---- the inbox, when this is taken

heard_so : (seat : Seat) (phase : Phase) (L : Entries) (said w : Said) (x new : InboxView)
    → InboxKept seat phase L said x
    → is_full x ≡ false
    → new.peer ≡ x.peer
    → SaysSo phase w new
    → HasRead longest_body (bytes_of (said ++ w)) new.reader (handled L new.peer ++ new.stage)
    → InboxKept seat phase L (said ++ w) new
heard_so seat (Playing zero) L said w x new k waits same so read = absurd (true≢false (k.full ∙ waits))
heard_so seat (Playing (suc r)) L said w x new k waits same so read =
    let runs : x.is_closed ≡ false = right_false x.is_marked x.is_closed waits in
    let goes : ends r (after r said) ≡ false = and_false (whole r said) (ends r (after r said)) k.stable (k.full ∙ waits) in
    let behind_it : after r (said ++ w) ≡ after r said ++ w = after_stays r said w k.stable in
    record {
      stable = whole_stays r said w k.stable;
      full = and_same (whole r (said ++ w)) (ends r (after r (said ++ w))) (whole_stays r said w k.stable)
          ∙ ap (ends r) behind_it ∙ ends_goes r (after r said) w goes ∙ so.ends_by.0;
      closed = closes_append said w (k.closed ∙ runs) ∙ so.closed;
      rest = ap (behind r) behind_it ∙ behind_goes r (after r said) w goes ∙ so.ends_by.1;
      here = ap (λ (v : Said). closes (front r v)) behind_it ∙ ap closes (front_goes r (after r said) w goes)
          ∙ closes_append (front r (after r said)) (front r w) (k.here ∙ runs) ∙ so.ends_by.2;
      earlier = subst₂ (λ (bytes : List ℕ) (q : PeerNo). Spell bytes (handled L q)) (sym (bytes_stay r said w k.stable)) (sym same) k.earlier;
      read = read;
    }
heard_so seat Closing L said w x new k waits same so read =
    let runs : x.is_closed ≡ false = right_false x.is_marked x.is_closed waits in
    record {
      stable = whole_stays seat.rounds said w k.stable;
      full = closes_append said w (k.closed ∙ runs) ∙ so.ends_by;
      closed = closes_append said w (k.closed ∙ runs) ∙ so.closed;
      rest = tt;
      here = tt;
      earlier = subst₂ (λ (bytes : List ℕ) (q : PeerNo). Spell bytes (handled L q)) (sym (bytes_stay seat.rounds said w k.stable)) (sym same) k.earlier;
      read = read;
    }

reads_piece : (L : Entries) (said : Said) (x : InboxView) (bytes : List ℕ) (reader : Holding) (found : List Rpc)
    → HasRead longest_body (bytes_of said ++ bytes) reader ((handled L x.peer ++ x.stage) ++ found)
    → HasRead longest_body (bytes_of (said ++ map Byte bytes)) reader (handled L x.peer ++ (x.stage ++ found))
reads_piece L said x bytes reader found h =
    subst₂ (λ (bs : List ℕ) (vs : List Rpc). HasRead longest_body bs reader vs)
    (sym (bytes_of_append said (map Byte bytes) ∙ ap (λ (bs : List ℕ). bytes_of said ++ bs) (bytes_of_bytes bytes)))
    (append_assoc (handled L x.peer) x.stage found) h

-- what says no bytes is read as nothing
reads_on : (L : Entries) (said w : Said) (x : InboxView) → bytes_of w ≡ [] → HasRead longest_body (bytes_of said) x.reader (handled L x.peer ++ x.stage) → HasRead longest_body (bytes_of (said ++ w)) x.reader (handled L x.peer ++ x.stage)
reads_on L said w x silent h =
    subst (λ (bs : List ℕ). HasRead longest_body bs x.reader (handled L x.peer ++ x.stage))
    (sym (bytes_of_append said w ∙ ap (λ (bs : List ℕ). bytes_of said ++ bs) silent ∙ append-nil (bytes_of said))) h

taken : (seat : Seat) (phase : Phase) (L : Entries) (said : Said) (x new : InboxView) (slot : Slot)
    → InboxKept seat phase L said x
    → is_full x ≡ false
    → Reads phase x slot new
    → InboxKept seat phase L (said ++ said_by_slot slot) new
taken seat phase L said x new (Piece bytes) k waits (reader, found, feeds, is) =
    subst (InboxKept seat phase L (said ++ map Byte bytes)) (sym is)
    (heard_so seat phase L said (map Byte bytes) x (record x { reader = reader; stage = x.stage ++ found }) k waits refl
    (piece_says phase bytes (record x { reader = reader; stage = x.stage ++ found }) waits (right_false x.is_marked x.is_closed waits))
    (reads_piece L said x bytes reader found (read_once longest_body (bytes_of said) bytes x.reader reader (handled L x.peer ++ x.stage) found k.read feeds)))
taken seat phase L said x new (Round r) k waits is =
    subst (InboxKept seat phase L (said ++ EndOf r ∷ [])) (sym is)
    (heard_so seat phase L said (EndOf r ∷ []) x (record x { is_marked = is_mark phase r }) k waits refl
    (mark_says phase r x (right_false x.is_marked x.is_closed waits)) (reads_on L said (EndOf r ∷ []) x refl k.read))
taken seat phase L said x new Close k waits is =
    subst (InboxKept seat phase L (said ++ Closed ∷ [])) (sym is)
    (heard_so seat phase L said (Closed ∷ []) x (record x { is_closed = true }) k waits refl
    (close_says phase x) (reads_on L said (Closed ∷ []) x refl k.read))

-- AN INBOX STAYS RIGHT when a slot is taken, where not all is taken that it hears
pub listened : (seat : Seat) (phase : Phase) (L : Entries) (said said' : Said) (x new : InboxView) (slot : Slot)
    → InboxKept seat phase L said x
    → is_full x ≡ false
    → Reads phase x slot new
    → said' ≡ said ++ flat (slot ∷ [])
    → InboxKept seat phase L said' new
listened seat phase L said said' x new slot k waits reads is =
    subst (λ (w : Said). InboxKept seat phase L w new) (sym (is ∙ ap (λ (w : Said). said ++ w) (flat_slot slot))) (taken seat phase L said x new slot k waits reads)
