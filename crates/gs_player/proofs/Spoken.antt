-- What a peer has said by the end of a round stays as it is.
use Rattle.std.proofs.Common.{◌≡◌, ℕ, zero, suc, Bool, true, false, nat_eq, ◌&&◌, if◌then◌else◌, List, [], ◌∷◌, ◌++◌, map, refl, sym, ap, ap₂, subst, ◌∙◌, append_assoc, append-nil, true≢false, eq-eqb}
use Rattle.gs_base.specs.declared.names.PeerNo.{PeerNo}
use Rattle.gs_base.specs.Tokens.{Byte, EndOf, Close, Said}
use Rattle.gs_wire.specs.Codec.{codec}
use Rattle.gs_rules.specs.declared.event.Event.{Event}
use Rattle.gs_rules.specs.declared.event.Event.TheVariants.{RoundEnd}
use Rattle.gs_rules.specs.declared.trace.Entry.{Entry}
use Rattle.gs_rules.specs.declared.refusal.RefusedLine.{RefusedLine}
use Rattle.gs_rules.specs.Tables.{Entries, up, up_after}
use Rattle.gs_rules.specs.Saying.{Outgoing, behind_entry, out, outgoing, sign}
use Rattle.gs_rules.specs.Hearing.{after}
use Rattle.gs_rules.specs.Rounds.{Seat, AfterRounds}
use Rattle.gs_rules.proofs.Handled.{GoesOn}
use Rattle.gs_rules.proofs.InOrder.{down_stays, entry_says, out_stays}
use Rattle.gs_rules.proofs.RoundEnds.{has_ended}
use Rattle.gs_player.specs.Ended.{ends, whole}
use Rattle.gs_player.proofs.Words.{after_stays, whole_stays}

-- ---- words

-- the end of a round ends it
pub end_stands : (r : ℕ) (w : Said) → ends r (w ++ EndOf r ∷ []) ≡ true
end_stands r [] = ap (λ (b : Bool). if b then true else false) (eq-eqb r r refl)
end_stands r (Byte b ∷ w) = end_stands r w
end_stands r (EndOf k ∷ w) = either (nat_eq k r) (end_stands r w)
  where
    either : (b : Bool) → ends r (w ++ EndOf r ∷ []) ≡ true → (if b then true else ends r (w ++ EndOf r ∷ [])) ≡ true
    either true h = refl
    either false h = h
end_stands r (Close ∷ w) = refl

pub one_whole : (r : ℕ) (w : Said) → whole r w ≡ true → whole (suc r) (w ++ EndOf r ∷ []) ≡ true
one_whole r w h =
    ap₂ (λ (a b : Bool). a && b) (whole_stays r w (EndOf r ∷ []) h) (ap (ends r) (after_stays r w (EndOf r ∷ []) h) ∙ end_stands r (after r w))

-- ---- what is down stays down, and hears nothing more

pub stays_down : (q : PeerNo) (L : Entries) (entries : List Entry) → up L q ≡ false → up (entries ++ L) q ≡ false
stays_down q L [] down = down
stays_down q L (e ∷ entries) down = ap (up_after q e.event) (stays_down q L entries down) ∙ down_stays q e.event

pub was_up : (q : PeerNo) (L : Entries) (entries : List Entry) → up (entries ++ L) q ≡ true → up L q ≡ true
was_up q L entries is_up = by (up L q) refl
  where
    by : (b : Bool) → up L q ≡ b → up L q ≡ true
    by true is = is
    by false is = absurd (true≢false (sym is_up ∙ stays_down q L entries is))

pub told_no_more : (q : PeerNo) (L : Entries) (entries : List Entry) → up L q ≡ false → out codec (entries ++ L) q ≡ out codec L q
told_no_more q L [] down = refl
told_no_more q L (e ∷ entries) down =
    ap (λ (b : Bool). (if b then behind_entry codec q (outgoing codec (entries ++ L) q) e else outgoing codec (entries ++ L) q).said) (stays_down q L entries down)
    ∙ told_no_more q L entries down

-- ---- what is said goes on

pub told_more : (q : PeerNo) (L : Entries) (entries : List Entry) → (v : Said) × (out codec (entries ++ L) q ≡ out codec L q ++ v)
told_more q L [] = ([], sym (append-nil (out codec L q)))
told_more q L (e ∷ entries) =
    let before = told_more q L entries in
    let one = out_stays codec (entries ++ L) e q in
    (before.0 ++ one.0, one.1 ∙ ap (λ (w : Said). w ++ one.0) before.1 ∙ append_assoc (out codec L q) before.0 one.0)

pub whole_on : (r : ℕ) (q : PeerNo) (K L : Entries) → GoesOn K L → whole r (out codec K q) ≡ true → whole r (out codec L q) ≡ true
whole_on r q K L (entries, is) h =
    let more = told_more q K entries in
    ap (λ (N : Entries). whole r (out codec N q)) is ∙ ap (whole r) more.1 ∙ whole_stays r (out codec K q) more.0 h

-- the end of a round is said where it comes
pub end_said : (q : PeerNo) (r : ℕ) (M : Entries) (e : Entry) → e.event ≡ RoundEnd r → up M q ≡ true → (v : Said) × (out codec (e ∷ M) q ≡ (out codec M q ++ v) ++ EndOf r ∷ [])
end_said q r M e is is_up =
    let o : Outgoing = outgoing codec M q in
    let says = entry_says codec q o e in
    let mine : Said = map Byte says.0 in (
      mine,
      ap (λ (b : Bool). (if b then behind_entry codec q o e else o).said) is_up
          ∙ says.1
          ∙ ap (λ (event : Event). o.said ++ (mine ++ sign q event)) is
          ∙ sym (append_assoc o.said mine (EndOf r ∷ [])),
    )

-- ---- a round

-- in what is said to q, that is up, r rounds have ended
pub rounds_whole : (seat : Seat) (said : PeerNo → Said) (r : ℕ) (K : Entries) (refused : List RefusedLine) (q : PeerNo) → AfterRounds seat said r K refused → up K q ≡ true → whole r (out codec K q) ≡ true
rounds_whole seat said zero K refused q h is_up = refl
rounds_whole seat said (suc r) K refused q (J, earlier, more, before, plays, is) is_up =
    let ended = has_ended seat said r J K earlier more before plays in
    let e : Entry = ended.end in
    let M : Entries = ended.before in
    let up_behind : up (e ∷ M) q ≡ true = subst (λ (L : Entries). up L q ≡ true) ended.are is_up in
    let up_there : up M q ≡ true = was_up q M (e ∷ []) up_behind in
    let up_before : up J q ≡ true = was_up q J ended.goes_on.0 (subst (λ (L : Entries). up L q ≡ true) ended.goes_on.1 up_there) in
    let there : whole r (out codec M q) ≡ true = whole_on r q J M ended.goes_on (rounds_whole seat said r J earlier q before up_before) in
    let last = end_said q r M e ended.is_end up_there in
    let now : whole (suc r) (out codec (e ∷ M) q) ≡ true = ap (whole (suc r)) last.1 ∙ one_whole r (out codec M q ++ last.0) (whole_stays r (out codec M q) last.0 there) in
    ap (λ (L : Entries). whole (suc r) (out codec L q)) ended.are ∙ now
