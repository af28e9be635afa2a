-- Items as they lie in a link, one more at the back, and what is left of a list of items.
use Rattle.std.proofs.Common.{◌≡◌, ℕ, zero, suc, ◌+◌, Bool, true, false, List, [], ◌∷◌, ◌++◌, refl, sym, ap, ◌∙◌, length, take, drop, ◌≤◌, if◌then◌else◌, arith, subst}
use Rattle.gs_link.specs.declared.item.Item.{Item}
use Rattle.gs_link.specs.declared.item.Item.TheVariants as item
use Rattle.gs_link.specs.declared.item.Slot.TheVariants.{Close}
use Rattle.gs_link.specs.Items.{slot_of}
use Rattle.gs_link.specs.Runs.{closes}
use Rattle.gs_link.specs.Ends.{with_close}
use Rattle.gs_ends.specs.Lists.{as_slots}

pub closes_as_slots : (items : List Item) (closed : Bool) → closes (as_slots items closed) ≡ closed
closes_as_slots [] true = refl
closes_as_slots [] false = refl
closes_as_slots (item.Piece bytes ∷ items) closed = closes_as_slots items closed
closes_as_slots (item.Round r ∷ items) closed = closes_as_slots items closed

pub as_slots_snoc : (items : List Item) (x : Item) → as_slots (items ++ x ∷ []) false ≡ as_slots items false ++ slot_of x ∷ []
as_slots_snoc [] x = refl
as_slots_snoc (y ∷ items) x = ap (λ l. slot_of y ∷ l) (as_slots_snoc items x)

pub as_slots_close : (items : List Item) → as_slots items true ≡ as_slots items false ++ Close ∷ []
as_slots_close [] = refl
as_slots_close (y ∷ items) = ap (λ l. slot_of y ∷ l) (as_slots_close items)

pub length_as_slots : (items : List Item) → length (as_slots items false) ≡ length items
length_as_slots [] = refl
length_as_slots (y ∷ items) = ap suc (length_as_slots items)

-- ---- the first of what is left is taken

abbrev rest_of : List Item → List Item
rest_of [] = []
rest_of (x ∷ items) = items

abbrev first_or : Item → List Item → Item
first_or other [] = other
first_or other (x ∷ items) = x

one_more : (n : ℕ) (all : List Item) (x : Item) (rest : List Item) → x ∷ rest ≡ drop n all → (take (suc n) all ≡ take n all ++ x ∷ []) × (rest ≡ drop (suc n) all)
one_more zero [] x rest is = absurd (let l = ap length is in omega (arith, l))
one_more zero (y ∷ all) x rest is = (ap (λ l. first_or x l ∷ []) (sym is), ap rest_of is)
one_more (suc n) [] x rest is = absurd (let l = ap length is in omega (arith, l))
one_more (suc n) (y ∷ all) x rest is = let r = one_more n all x rest is in (ap (λ l. y ∷ l) r.0, r.1)

take_more : (n : ℕ) (all : List Item) (x : Item) (rest : List Item) → x ∷ rest ≡ drop n all → (take (n + 1) all ≡ take n all ++ x ∷ []) × (rest ≡ drop (n + 1) all)
take_more n all x rest is = let next : suc n ≡ n + 1 = omega arith in subst (λ k. (take k all ≡ take n all ++ x ∷ []) × (rest ≡ drop k all)) next (one_more n all x rest is)

pub rest_more : (n : ℕ) (all : List Item) (x : Item) (rest : List Item) → x ∷ rest ≡ drop n all → rest ≡ drop (n + 1) all
rest_more n all x rest is = (take_more n all x rest is).1

-- the front of what comes that leaves out the close
take_within : (n : ℕ) (items : List Item) → n ≤ length items → take n (as_slots items true) ≡ as_slots (take n items) false
take_within zero items within = refl
take_within (suc n) [] within = absurd (omega arith)
take_within (suc n) (x ∷ items) within = ap (λ l. slot_of x ∷ l) (take_within n items (omega arith))

-- and with the close it is all that comes
take_whole : (items : List Item) → take (suc (length items)) (as_slots items true) ≡ as_slots items true
take_whole [] = refl
take_whole (x ∷ items) = ap (λ l. slot_of x ∷ l) (take_whole items)

take_count : (items : List Item) → take (length items) items ≡ items
take_count [] = refl
take_count (x ∷ items) = ap (λ l. x ∷ l) (take_count items)

-- an item is taken
pub got : (n : ℕ) (all : List Item) (x : Item) (rest : List Item) → x ∷ rest ≡ drop n all → n + length (x ∷ rest) ≡ length all → (closes (take n (as_slots all true)) ≡ false) × (take (n + 1) (as_slots all true) ≡ take n (as_slots all true) ++ slot_of x ∷ [])
got n all x rest is count =
    let more = take_more n all x rest is in
    let before : take n (as_slots all true) ≡ as_slots (take n all) false = take_within n all (omega (arith, count)) in (
      ap closes before ∙ closes_as_slots (take n all) false,
      take_within (n + 1) all (omega (arith, count)) ∙ ap (λ l. as_slots l false) more.0 ∙ as_slots_snoc (take n all) x ∙ ap (λ l. l ++ slot_of x ∷ []) (sym before),
    )

-- the close is taken, after the last item
pub closed_now : (n : ℕ) (all : List Item) → n ≡ length all → take (suc n) (as_slots all true) ≡ with_close (take n (as_slots all true))
closed_now n all is =
    let before : take n (as_slots all true) ≡ as_slots all false = take_within n all (omega (arith, is)) ∙ ap (λ k. as_slots (take k all) false) is ∙ ap (λ l. as_slots l false) (take_count all) in
    ap (λ k. take (suc k) (as_slots all true)) is ∙ take_whole all ∙ as_slots_close all
    ∙ ap (λ b. if b then as_slots all false else as_slots all false ++ Close ∷ []) (sym (closes_as_slots all false))
    ∙ ap with_close (sym before)

-- the close was taken before
pub closed_before : (n : ℕ) (all : List Item) → n ≡ length all → take (suc n) (as_slots all true) ≡ with_close (take (suc n) (as_slots all true))
closed_before n all is =
    let whole : take (suc n) (as_slots all true) ≡ as_slots all true = ap (λ k. take (suc k) (as_slots all true)) is ∙ take_whole all in
    whole ∙ ap (λ b. if b then as_slots all true else as_slots all true ++ Close ∷ []) (sym (closes_as_slots all true)) ∙ ap with_close (sym whole)
