-- A close stands once at most, and only as the last.
use Rattle.std.proofs.Common.{◌≡◌, Bool, true, false, true≢false, List, [], ◌∷◌, ◌++◌, refl, sym, ◌∙◌, ap, subst, append-nil}
use Rattle.gs_link.specs.declared.item.Item.{Item}
use Rattle.gs_link.specs.declared.item.Slot.{Slot}
use Rattle.gs_link.specs.declared.item.Slot.TheVariants.{Piece, Round, Close}
use Rattle.gs_link.specs.declared.item.Item.TheVariants as item
use Rattle.gs_link.specs.Items.{slot_of}
use Rattle.gs_link.specs.Runs.{closes, ClosesLast}

abbrev rest_of : List Slot → List Slot
rest_of [] = []
rest_of (slot ∷ slots) = slots

abbrev begins_with_close : List Slot → Bool
begins_with_close [] = false
begins_with_close (Piece bytes ∷ slots) = false
begins_with_close (Round r ∷ slots) = false
begins_with_close (Close ∷ slots) = true

abbrev is_nil : List Slot → Bool
is_nil [] = true
is_nil (slot ∷ slots) = false

pub closes-item : (slots : List Slot) (x : Item) → closes (slots ++ slot_of x ∷ []) ≡ closes slots
closes-item [] (item.Piece bytes) = refl
closes-item [] (item.Round r) = refl
closes-item (Piece bytes ∷ slots) x = closes-item slots x
closes-item (Round r ∷ slots) x = closes-item slots x
closes-item (Close ∷ slots) x = refl

pub closes-close : (before behind : List Slot) → closes (before ++ Close ∷ behind) ≡ true
closes-close [] behind = refl
closes-close (Piece bytes ∷ before) behind = closes-close before behind
closes-close (Round r ∷ before) behind = closes-close before behind
closes-close (Close ∷ before) behind = refl

pub last-none : ClosesLast []
last-none before behind is = absurd (true≢false (sym (closes-close before behind) ∙ sym (ap closes is)))

-- a list without a close may get any last slot
pub last-snoc : (slots : List Slot) (slot : Slot) → closes slots ≡ false → ClosesLast (slots ++ slot ∷ [])
last-snoc [] slot unclosed [] behind is = sym (ap rest_of is)
last-snoc [] slot unclosed (b ∷ before) behind is = absurd (true≢false (sym (closes-close before behind) ∙ sym (ap (λ l. closes (rest_of l)) is)))
last-snoc (Piece bytes ∷ slots) slot unclosed [] behind is = absurd (true≢false (sym (ap begins_with_close is)))
last-snoc (Round r ∷ slots) slot unclosed [] behind is = absurd (true≢false (sym (ap begins_with_close is)))
last-snoc (Piece bytes ∷ slots) slot unclosed (b ∷ before) behind is = last-snoc slots slot unclosed before behind (ap rest_of is)
last-snoc (Round r ∷ slots) slot unclosed (b ∷ before) behind is = last-snoc slots slot unclosed before behind (ap rest_of is)
last-snoc (Close ∷ slots) slot unclosed before behind is = absurd (true≢false unclosed)

no-rest : (xs ys : List Slot) → xs ++ ys ≡ [] → ys ≡ []
no-rest [] ys is = is
no-rest (x ∷ xs) ys is = absurd (true≢false (sym (ap is_nil is)))

nothing-after : (taken waiting : List Slot) → ClosesLast (taken ++ waiting) → closes taken ≡ true → waiting ≡ []
nothing-after [] waiting last closed = absurd (true≢false (sym closed))
nothing-after (Piece bytes ∷ taken) waiting last closed = nothing-after taken waiting (λ before behind is. last (Piece bytes ∷ before) behind (ap (λ l. Piece bytes ∷ l) is)) closed
nothing-after (Round r ∷ taken) waiting last closed = nothing-after taken waiting (λ before behind is. last (Round r ∷ before) behind (ap (λ l. Round r ∷ l) is)) closed
nothing-after (Close ∷ taken) waiting last closed = no-rest taken waiting (last [] (taken ++ waiting) refl)

-- where the close was taken, all was taken
pub all-taken : (accepted taken waiting : List Slot) → accepted ≡ taken ++ waiting → ClosesLast accepted → closes taken ≡ true → accepted ≡ taken
all-taken accepted taken waiting is last closed = is ∙ ap (λ w. taken ++ w) (nothing-after taken waiting (subst ClosesLast is last) closed) ∙ append-nil taken
