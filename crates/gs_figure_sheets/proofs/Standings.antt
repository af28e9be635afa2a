-- How peers stand, one by one.
use Rattle.std.proofs.Common.{◌≡◌, ◌<◌, ◌+◌, ℕ, zero, suc, true, false, cond, Bool, filter, List, [], ◌∷◌, ◌++◌, take, get_or, if◌then◌else◌, length, map, refl, sym, ap, ap₂, subst, ◌∙◌, arith}
use Rattle.std.specs.Prelude.{Option, Some, None, option_map, slice_get, unwrap_or}
use Rattle.std.specs.List.{AllByRecursion, range_with_len}
use Rattle.std.proofs.lemmas.List.{append-nil, get_or-map, length-map, map-append, map_push, take_at, take_more}
use Rattle.std.proofs.lemmas.List.Elements.{filter-append}
use Rattle.std.proofs.lemmas.List.FromFn.{get_or-map-range_with_len, length-map-range_with_len}
use Rattle.gs_base.specs.declared.names.PeerNo.{PeerNo}
use Rattle.gs_counts.specs.declared.span.Span.{Span}
use Rattle.gs_reach.specs.declared.chosen.Chosen.{Chosen}
use Rattle.gs_report.specs.declared.finished.Finished.{Finished}
use Rattle.gs_report.specs.declared.remains.Remains.{Remains}
use Rattle.gs_report.specs.Seen.{AreLives, numbers_below, remains_of}
use Rattle.gs_rules.specs.Tables.{Entries}
use Rattle.gs_figure_sheets.specs.declared.standing.Standing.{Standing}
use Rattle.gs_figure_sheets.specs.Standings.{meshes_if, standing_of}

all_at : {A : Type 0} (P : A → Type 0) (xs : List A) (i : ℕ) (d : A) → AllByRecursion P xs → i < length xs → P (get_or xs i d)
all_at P [] i d h low = absurd (omega (arith, low))
all_at P (x ∷ xs) zero d h low = h.0
all_at P (x ∷ xs) (suc i) d h low = all_at P xs i d h.1 (omega (arith, low))

abbrev pub Life : Type 0
Life = PeerNo × Finished

-- what is left of a peer, with its number
abbrev pub left : Life → PeerNo × Remains
left x = (x.0, remains_of x.1)

-- the life that has left this
pub life_at : (lives : List Life) (i : ℕ) (one : PeerNo × Remains) → i < length (map left lives) → one ≡ get_or (map left lives) i one → (x : Life) × (x ≡ get_or lives i x) × (left x ≡ one) × (i < length lives)
life_at [] i one below is = absurd (omega (arith, below))
life_at (y ∷ ys) zero one below is = (y, refl, sym is, omega arith)
life_at (y ∷ ys) (suc i) one below is =
    let (x, at, same, within) = life_at ys i one (omega (arith, below)) is in
    (x, at, same, omega (arith, within))

pub number_below : (count : ℕ) (traces : PeerNo → Entries) (lives : List Life) (i : ℕ) (x : Life) → AreLives count traces lives → i < length lives → x ≡ get_or lives i x → x.0.0 < count
number_below count traces lives i x are below at =
    let number : ℕ → PeerNo = λ n. record { 0 = n } in
    let many : length lives ≡ count = sym (length-map lives (λ (y : Life). y.0)) ∙ ap length are.numbers ∙ length-map-range_with_len number 0 count in
    let is : x.0 ≡ number i =
    ap (λ (y : Life). y.0) at
    ∙ sym (get_or-map (λ (y : Life). y.0) lives i x x.0 below)
    ∙ ap (λ (ps : List PeerNo). get_or ps i x.0) are.numbers
    ∙ get_or-map-range_with_len number 0 count i i x.0 (omega (arith, below, many)) (omega arith) in
    let same : x.0.0 ≡ i = ap (λ (p : PeerNo). p.0) is in
    omega (arith, same, below, many)

pub trace_at : (count : ℕ) (traces : PeerNo → Entries) (lives : List Life) (i : ℕ) (x : Life) → AreLives count traces lives → i < length lives → x ≡ get_or lives i x → x.1.trace ≡ traces x.0
trace_at count traces lives i x are below at =
    subst (λ (y : Life). y.1.trace ≡ traces y.0) (sym at) (all_at (λ (y : Life). y.1.trace ≡ traces y.0) lives i x are.same below)

-- one more of a list
pub one_more : {A B : Type 0} (f : A → B) (xs : List A) (i : ℕ) (x : A) (old new : List B) (y : B) → i < length xs → x ≡ get_or xs i x → old ≡ map f (take i xs) → new ≡ old ++ y ∷ [] → y ≡ f x → new ≡ map f (take (i + 1) xs)
one_more f xs i x old new y below at had more is =
    more ∙ ap₂ (λ (ys : List _) (z : _). ys ++ z ∷ []) had is ∙ sym (map_push f (take i xs) x)
    ∙ ap (map f) (ap (λ z. take i xs ++ z ∷ []) at ∙ sym (take_more xs i x below))

-- one more of a list, if it counts
pub kept_more : {A B : Type 0} (which : A → Bool) (f : A → B) (xs : List A) (i : ℕ) (x : A) (old new : List B) → i < length xs → x ≡ get_or xs i x → old ≡ map f (filter which (take i xs)) → new ≡ (if which x then old ++ f x ∷ [] else old) → new ≡ map f (filter which (take (i + 1) xs))
kept_more {A} {B} which f xs i x old new below at had is =
    is ∙ by (which x) refl
    ∙ ap (λ ys. map f (filter which ys)) (ap (λ y. take i xs ++ y ∷ []) at ∙ sym (take_more xs i x below))
  where
    by : (b : Bool) → which x ≡ b → (if b then old ++ f x ∷ [] else old) ≡ map f (filter which (take i xs ++ x ∷ []))
    by true counts =
        ap (λ ys. ys ++ f x ∷ []) had
        ∙ sym (map_push f (filter which (take i xs)) x)
        ∙ ap (map f) (ap (λ ys. filter which (take i xs) ++ ys) (sym (ap (λ (c : Bool). cond c (x ∷ []) []) counts)) ∙ sym (filter-append which (take i xs) (x ∷ [])))
    by false counts =
        had
        ∙ ap (map f) (sym (append-nil (filter which (take i xs))) ∙ ap (λ ys. filter which (take i xs) ++ ys) (sym (ap (λ (c : Bool). cond c (x ∷ []) []) counts)) ∙ sym (filter-append which (take i xs) (x ∷ [])))

-- ---- one after the other

abbrev tail_of : {A : Type 0} → List A → List A
tail_of [] = []
tail_of (x ∷ xs) = xs

abbrev head_or : {A : Type 0} → A → List A → A
head_or d [] = d
head_or d (x ∷ xs) = x

-- What is a front of what lives have left is of a front of the lives.
pub fronts : (ys : List (PeerNo × Remains)) (one : PeerNo × Remains) (lives : List Life) → ys ++ one ∷ [] ≡ take (length (ys ++ one ∷ [])) (map left lives) → (before : List Life) × (x : Life) × (after : List Life) × (lives ≡ before ++ x ∷ after) × (map left before ≡ ys) × (left x ≡ one)
fronts [] one [] is = absurd (omega (arith, ap length is))
fronts [] one (x ∷ xs) is = ([], x, xs, refl, refl, sym (ap (head_or one) is))
fronts (y ∷ ys) one [] is = absurd (omega (arith, ap length is))
fronts (y ∷ ys) one (x ∷ xs) is =
    let (before, z, after, whole, are, same) = fronts ys one xs (ap tail_of is) in
    (x ∷ before, z, after, ap (λ rest. x ∷ rest) whole, ap₂ (λ (a : PeerNo × Remains) rest. a ∷ rest) (sym (ap (head_or y) is)) are, same)

front : {A : Type 0} (xs ys : List A) → take (length xs) (xs ++ ys) ≡ xs
front xs ys = take_at xs ys (length xs) refl

at_seam : {A : Type 0} (xs : List A) (x : A) (ys : List A) → slice_get (xs ++ x ∷ ys) (length xs) ≡ Some x
at_seam [] x ys = refl
at_seam (z ∷ zs) x ys = at_seam zs x ys

-- one more peer stands
pub stands : (among : Chosen) (before after : List Life) (x : Life) (old new : List Standing) (found : Option Span)
    → (take (length before) (map left (before ++ x ∷ after)) ≡ map left before → old ≡ map (standing_of among) (take (length before) (before ++ x ∷ after)))
    → found ≡ unwrap_or (slice_get (map (meshes_if among) (before ++ x ∷ after)) (length old)) None
    → new ≡ old ++ record { peer = x.0; meshes = found; remains = remains_of x.1 } ∷ []
    → new ≡ map (standing_of among) (before ++ x ∷ [])
stands among before after x old new found so looks more =
    more ∙ ap₂ (λ (ys : List Standing) (y : Standing). ys ++ y ∷ []) stood one ∙ sym (map_push (standing_of among) before x)
  where
    all : List Life
    all = before ++ x ∷ after

    shown : map left all ≡ map left before ++ map left (x ∷ after)
    shown = map-append left before (x ∷ after)

    stood : old ≡ map (standing_of among) before
    stood =
        so (ap (take (length before)) shown ∙ ap (λ (n : ℕ). take n (map left before ++ map left (x ∷ after))) (sym (length-map before left)) ∙ front (map left before) (map left (x ∷ after)))
        ∙ ap (map (standing_of among)) (front before (x ∷ after))

    place : length old ≡ length (map (meshes_if among) before)
    place = ap length stood ∙ length-map before (standing_of among) ∙ sym (length-map before (meshes_if among))

    is : found ≡ meshes_if among x
    is =
        looks
        ∙ ap₂ (λ (ms : List (Option Span)) (n : ℕ). unwrap_or (slice_get ms n) None) (map-append (meshes_if among) before (x ∷ after)) place
        ∙ ap (λ (m : Option (Option Span)). unwrap_or m None) (at_seam (map (meshes_if among) before) (meshes_if among x) (map (meshes_if among) after))

    one : record { peer = x.0; meshes = found; remains = remains_of x.1 } ≡ standing_of among x
    one = ap (λ (m : Option Span). record { peer = x.0; meshes = m; remains = remains_of x.1 }) is

pub front_and_one : {A : Type 0} (xs : List A) (x : A) (ys : List A) → take (length (xs ++ x ∷ [])) (xs ++ x ∷ ys) ≡ xs ++ x ∷ []
front_and_one [] x ys = refl
front_and_one (z ∷ zs) x ys = ap (λ rest. z ∷ rest) (front_and_one zs x ys)

pub as_long : {A B : Type 0} (f : A → B) (xs : List A) (x : A) (y : B) → length (map f xs ++ y ∷ []) ≡ length (xs ++ x ∷ [])
as_long f [] x y = refl
as_long f (z ∷ zs) x y = ap suc (as_long f zs x y)
