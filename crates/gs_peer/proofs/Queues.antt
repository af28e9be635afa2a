-- What lists of slots say when one is put at the back, taken off the front, or cut, and what is gathered after them.
use Rattle.std.proofs.Common.{◌≡◌, ℕ, Bool, true, List, [], ◌∷◌, ◌++◌, Option, Some, None, map, take, drop, sym, ap, ap₂, ◌∙◌, append-nil, append_assoc}
use Rattle.std.specs.Prelude.{if◌then◌else◌, option_map}
use Rattle.std.proofs.lemmas.List.{take-append-drop}
use Rattle.std.proofs.lemmas.Option.{none-some}
use Rattle.gs_base.specs.declared.rpc.Rpc.{Rpc}
use Rattle.gs_base.specs.Codecs.{Codec}
use Rattle.gs_base.specs.Tokens.{Said, Byte}
use Rattle.gs_link.specs.declared.item.Slot.{Slot}
use Rattle.gs_link.specs.declared.item.Slot.TheVariants.{Piece}
use Rattle.gs_link.specs.Flat.{flat}
use Rattle.gs_link.proofs.Flats.{flat-append, flat-cut}
use Rattle.gs_rules.specs.Saying.{Outgoing, cut_out, frames_of, saying}

-- ---- what is gathered

abbrev pub goes_out : Said → Option Rpc → Outgoing
goes_out said held = record { said = said; gathered = held }

-- what waits, and what is gathered after it
abbrev pub waits : List Slot → Option Rpc → Outgoing
waits slots held = goes_out (flat slots) held

some_same : {A : Type 0} (a b : A) → Some a ≡ Some b → a ≡ b
some_same a b e = ap (λ o. elim o [ None ↦ a | Some x ↦ x ]) e

frame_out : (c : Codec) (u : Rpc) (text : List ℕ) → text ≡ c.frame u → flat (Piece text ∷ []) ≡ frames_of c (u ∷ [])
frame_out c u text is =
    append-nil (map Byte text)
    ∙ ap (λ (bytes : List ℕ). map Byte bytes) (is ∙ sym (append-nil (c.frame u)))

-- the frame of what is gathered is put at the back
pub put_out : (c : Codec) (slots new : List Slot) (held now : Option Rpc) (text : List ℕ)
    → Some text ≡ option_map c.frame held
    → now ≡ None
    → new ≡ slots ++ Piece text ∷ []
    → waits new now ≡ cut_out c (waits slots held)
put_out c slots new None now text is taken puts = absurd (none-some text (sym is))
put_out c slots new (Some u) now text is taken puts =
    ap₂ goes_out
    (ap flat puts
    ∙ flat-append slots (Piece text ∷ [])
    ∙ ap (λ (w : Said). flat slots ++ w) (frame_out c u text (some_same text (c.frame u) is)))
    taken

-- what is put at the back is said after a cut, where more may be said
pub put_at_back : (c : Codec) (may : Bool) (before : Outgoing) (slots new : List Slot) (held : Option Rpc) (slot : Slot) (w : Said)
    → may ≡ true
    → flat (slot ∷ []) ≡ w
    → waits slots held ≡ cut_out c before
    → new ≡ slots ++ slot ∷ []
    → waits new held ≡ (if may then saying (cut_out c before) w else before)
put_at_back c may before slots new held slot w may_be says cut puts =
    ap (λ (v : Said). goes_out v held) (ap flat puts ∙ flat-append slots (slot ∷ []) ∙ ap (λ (v : Said). flat slots ++ v) says)
    ∙ ap (λ (o : Outgoing). saying o w) cut
    ∙ sym (ap (λ (b : Bool). if b then saying (cut_out c before) w else before) may_be)

-- ---- slots

-- what is moved from the front of one list to the back of another is said by both together as before
pub moved : (before after behind : List Slot) (slot : Slot) → after ≡ before ++ slot ∷ [] → flat after ++ flat behind ≡ flat before ++ flat (slot ∷ behind)
moved before after behind slot is =
    ap (λ w. flat w ++ flat behind) is
    ∙ sym (flat-append (before ++ slot ∷ []) behind)
    ∙ ap flat (append_assoc before (slot ∷ []) behind)
    ∙ flat-append before (slot ∷ behind)

-- what goes back to the front is said by both lists together as before
pub refused : (before after old new : List Slot) (slot : Slot) → after ≡ before → flat new ≡ flat (slot ∷ old) → flat after ++ flat new ≡ flat before ++ flat (slot ∷ old)
refused before after old new slot stays back = ap (λ w. flat w ++ flat new) stays ∙ ap (λ w. flat before ++ w) back

-- a frame that is cut says what it said whole
pub cut_says : (frame front rest : List ℕ) (old new : List Slot) → frame ≡ front ++ rest → new ≡ Piece rest ∷ old → map Byte front ++ flat new ≡ map Byte frame ++ flat old
cut_says frame front rest old new is puts =
    ap (λ v. map Byte front ++ flat v) puts
    ∙ sym (flat-cut front rest old)
    ∙ ap (λ v. map Byte v ++ flat old) (sym is)

pub parts : (n : ℕ) (frame front rest : List ℕ) → front ≡ take n frame → rest ≡ drop n frame → frame ≡ front ++ rest
parts n frame front rest is left =
    sym (take-append-drop n frame)
    ∙ ap (λ v. v ++ drop n frame) (sym is)
    ∙ ap (λ v. front ++ v) (sym left)
