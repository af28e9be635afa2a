-- The entries that came after the first `told` ones, as a caller sees them: the oldest first.
use Rattle.std.proofs.Common.{◌≡◌, ◌-◌, ℕ, Bool, true, false, if◌then◌else◌, List, [], ◌∷◌, ◌++◌, length, take, drop, reverse, refl, sym, ap, ap₂, subst, ◌∙◌, append_assoc}
use Rattle.std.proofs.lemmas.List.{reverse-append, reverse-reverse, length-reverse, drop_at}
use Rattle.gs_base.specs.declared.names.PeerNo.{PeerNo}
use Rattle.gs_wire.specs.Codec.{codec}
use Rattle.gs_rules.specs.declared.trace.Entry.{Entry}
use Rattle.gs_rules.specs.declared.event.Event.{Event}
use Rattle.gs_rules.specs.Peers.{Peer}
use Rattle.gs_rules.specs.Tables.{Entries, cuts_off, up, up_after}
use Rattle.gs_rules.specs.Legal.{Legal}
use Rattle.gs_rules.specs.Saying.{AllFit, behind_entry, outgoing}
use Rattle.gs_rules.proofs.Fitting.{legal_part_fits}

pub next_first : (K : Entries) (e : Entry) (es : List Entry) → reverse (e ∷ es) ++ K ≡ reverse es ++ e ∷ K
next_first K e es = ap (λ (xs : List Entry). xs ++ K) (reverse-append (e ∷ []) es) ∙ append_assoc (reverse es) (e ∷ []) K

pub seen_as : (entries : List Entry) (L : Entries) → reverse entries ≡ L → entries ≡ reverse L
seen_as entries L is = sym (reverse-reverse entries) ∙ ap reverse is

pub newest : (K L : Entries) (es : List Entry) → L ≡ es ++ K → drop (length K) (reverse L) ≡ reverse es
newest K L es is =
    ap (λ (M : Entries). drop (length K) (reverse M)) is ∙ ap (drop (length K)) (reverse-append es K) ∙ drop_at (reverse K) (reverse es) (length K) (length-reverse K)

-- those that came fit
pub fits_since : (p : Peer) (told : ℕ) (all : List Entry) (L : Entries) → reverse all ≡ L → Legal p L → AllFit codec (take (length all - told) (drop told all))
fits_since p told all L is legal =
    subst (λ (entries : List Entry). AllFit codec (take (length all - told) (drop told entries))) (sym (seen_as all L is)) (legal_part_fits p L told (length all - told) legal)

-- the entries after the first `told` ones are those that came since
pub since : (told : ℕ) (all es : List Entry) (K L : Entries) → reverse all ≡ L → L ≡ es ++ K → length K ≡ told → drop told all ≡ reverse es
since told all es K L is added counted =
    ap₂ (λ (n : ℕ) (xs : List Entry). drop n xs) (sym counted) (seen_as all L is) ∙ newest K L es added

pub counted : (all : List Entry) (L : Entries) → reverse all ≡ L → length all ≡ length L
counted all L is = sym (length-reverse all) ∙ ap length is

-- ---- after the close

stays_down : (ends : Bool) → (if ends then false else false) ≡ false
stays_down true = refl
stays_down false = refl

never_up : (q : PeerNo) (event : Event) → up_after q event false ≡ false
never_up q event = stays_down (cuts_off q event)

pub down_stays : (L : Entries) (q : PeerNo) (es : List Entry) → up L q ≡ false → up (es ++ L) q ≡ false
down_stays L q [] is_down = is_down
down_stays L q (e ∷ es) is_down = ap (up_after q e.event) (down_stays L q es is_down) ∙ never_up q e.event

-- nothing more goes to a neighbour that is down
pub out_no_more : (L : Entries) (q : PeerNo) (es : List Entry) → up L q ≡ false → outgoing codec (es ++ L) q ≡ outgoing codec L q
out_no_more L q [] is_down = refl
out_no_more L q (e ∷ es) is_down =
    ap (λ (b : Bool). if b then behind_entry codec q (outgoing codec (es ++ L) q) e else outgoing codec (es ++ L) q) (down_stays L q es is_down)
    ∙ out_no_more L q es is_down
