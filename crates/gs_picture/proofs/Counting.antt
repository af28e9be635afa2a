-- Steps that are counted one after the other are those of the subscribers.
use Rattle.std.proofs.Common.{◌≡◌, ◌≤◌, ◌+◌, ◌-◌, ◌++◌, ◌∙◌, ℕ, suc, Bool, true, false, cond, List, [], ◌∷◌, append-nil, drop, length, map, Option, Some, None, refl, subst, sym, ap, arith}
use Rattle.std.specs.Prelude.{is_some, slice_get}
use Rattle.std.specs.List.{filter}
use Rattle.std.proofs.lemmas.Bool.{false≢true, eq-eqb}
use Rattle.std.proofs.lemmas.List.{drop_all}
use Rattle.gs_reach.specs.declared.distribution.Within.{Within}
use Rattle.gs_reach.specs.declared.pairs.Pair.{Pair}
use Rattle.gs_reach.specs.Order.{ascending}
use Rattle.gs_reach.specs.Reached.{is_at_most, is_reached, is_reached_within, reached, reached_within, rounds_of, fewest, within}
use Rattle.gs_reach.proofs.Counted.{percentile_none, percentile_not_before, percentile_within, reached_more}
use Rattle.gs_reach.proofs.Ordered.{Ascends, Ascends-ascending}
use Rattle.gs_picture.specs.Courses.{begins_with, each_once, step_at, steps}

-- the steps of what is left, after so many
abbrev pub counted : ℕ → List ℕ → List Within
counted ahead [] = []
counted ahead (n ∷ ns) = step_at ahead n ns ++ counted (ahead + 1) ns

abbrev in_order : List Pair → List ℕ
in_order pairs = ascending (λ n. n) (rounds_of pairs)

-- ---- places

at_place : (before : List ℕ) (n : ℕ) (ns : List ℕ) → slice_get (before ++ n ∷ ns) (length before) ≡ Some n
at_place [] n ns = refl
at_place (m ∷ ms) n ns = at_place ms n ns

at_next : (before : List ℕ) (n : ℕ) (ns : List ℕ) → slice_get (before ++ n ∷ ns) (suc (length before)) ≡ slice_get ns 0
at_next [] n ns = refl
at_next (m ∷ ms) n ns = at_next ms n ns

no_lower : (before : List ℕ) (n m : ℕ) (ns : List ℕ) → Ascends (λ i. i) (before ++ n ∷ m ∷ ns) → n ≤ m
no_lower [] n m ns a = a.0.0
no_lower (i ∷ is) n m ns a = no_lower is n m ns a.1

-- ---- how many

one_within : (b c : Bool) (x : Pair) (fs gs : List Pair) → (b ≡ true → c ≡ true) → length fs ≤ length gs
    → length (cond b (x ∷ fs) fs) ≤ length (cond c (x ∷ gs) gs)
one_within true true x fs gs h le = omega arith
one_within true false x fs gs h le = absurd (false≢true (h refl))
one_within false true x fs gs h le = omega arith
one_within false false x fs gs h le = le

some_at_most : (k : ℕ) (n : Option ℕ) → is_at_most k n ≡ true → is_some n ≡ true
some_at_most k None h = absurd (false≢true h)
some_at_most k (Some n) h = refl

within_all : (k : ℕ) (pairs : List Pair) → reached_within k pairs ≤ reached pairs
within_all k [] = omega arith
within_all k (x ∷ xs) =
    one_within (is_at_most k x.rounds) (is_some x.rounds) x (filter (is_reached_within k) xs) (filter is_reached xs)
    (some_at_most k x.rounds) (within_all k xs)

-- ---- steps

-- the number at a place has the place's rank
ranked : (pairs : List Pair) (i : ℕ) (n : Option ℕ) → slice_get (in_order pairs) i ≡ n → fewest (i + 1) pairs ≡ n
ranked pairs i n e =
    let place : (i + 1) - 1 ≡ i = omega arith in
    ap (λ (k : ℕ). slice_get (in_order pairs) k) place ∙ e

-- where the next number is another, or none is left, as many were reached as stand ahead, and one more
exactly : (pairs : List Pair) (before : List ℕ) (n : ℕ) (ns : List ℕ) → in_order pairs ≡ before ++ n ∷ ns → begins_with n ns ≡ false
    → reached_within n pairs ≡ length before + 1
exactly pairs before n [] e f =
    let here = ap (λ (xs : List ℕ). slice_get xs (length before)) e ∙ at_place before n [] in
    let none = ap (λ (xs : List ℕ). slice_get xs (suc (length before))) e ∙ at_next before n [] in
    let low = percentile_within (length before + 1) n pairs (omega arith) (ranked pairs (length before) (Some n) here) in
    let high = percentile_none (suc (length before) + 1) pairs (omega arith) (ranked pairs (suc (length before)) None none) in
    let all = within_all n pairs in
    omega (arith, low, high, all)
exactly pairs before n (m ∷ ms) e f =
    let here = ap (λ (xs : List ℕ). slice_get xs (length before)) e ∙ at_place before n (m ∷ ms) in
    let next = ap (λ (xs : List ℕ). slice_get xs (suc (length before))) e ∙ at_next before n (m ∷ ms) in
    let ascends : Ascends (λ i. i) (before ++ n ∷ m ∷ ms) = subst (λ (xs : List ℕ). Ascends (λ i. i) xs) e (Ascends-ascending (λ i. i) (rounds_of pairs)) in
    let le = no_lower before n m ms ascends in
    let other : n ≡ m → ⊥ = λ same. false≢true (sym f ∙ eq-eqb n m same) in
    let low = percentile_within (length before + 1) n pairs (omega arith) (ranked pairs (length before) (Some n) here) in
    let high = percentile_not_before (suc (length before) + 1) m pairs (omega arith) (omega (arith, le, other)) (ranked pairs (suc (length before)) (Some m) next) in
    let more = reached_more pairs n (m - 1) (omega (arith, le, other)) in
    omega (arith, low, high, more)

one_step : (pairs : List Pair) (b : Bool) (ahead n : ℕ) (cs : List Within) (ns : List ℕ) → (b ≡ false → reached_within n pairs ≡ ahead + 1)
    → cs ≡ map (within pairs) ns
    → (cond b [] (record { limit = n; reached = ahead + 1 } ∷ [])) ++ cs ≡ map (within pairs) (cond b ns (n ∷ ns))
one_step pairs true ahead n cs ns h e = e
one_step pairs false ahead n cs ns h e = λ i. record { limit = n; reached = sym (h refl) i } ∷ e i

joined : (before : List ℕ) (n : ℕ) (ns : List ℕ) → before ++ n ∷ ns ≡ (before ++ n ∷ []) ++ ns
joined [] n ns = refl
joined (m ∷ ms) n ns = ap (λ (xs : List ℕ). m ∷ xs) (joined ms n ns)

longer : (before : List ℕ) (n : ℕ) → length (before ++ n ∷ []) ≡ length before + 1
longer [] n = refl
longer (m ∷ ms) n = let more = longer ms n in omega (arith, more)

-- what is left has the steps of its numbers
left_steps : (pairs : List Pair) (before ns : List ℕ) → in_order pairs ≡ before ++ ns → counted (length before) ns ≡ map (within pairs) (each_once ns)
left_steps pairs before [] e = refl
left_steps pairs before (n ∷ ns) e =
    one_step pairs (begins_with n ns) (length before) n (counted (length before + 1) ns) (each_once ns) (exactly pairs before n ns e)
    (ap (λ (k : ℕ). counted k ns) (sym (longer before n)) ∙ left_steps pairs (before ++ n ∷ []) ns (e ∙ joined before n ns))

-- all of them have those of the subscribers
all_steps : (pairs : List Pair) (ns : List ℕ) → ns ≡ in_order pairs → counted 0 ns ≡ steps pairs
all_steps pairs ns e = left_steps pairs [] ns (sym e) ∙ ap (λ (xs : List ℕ). map (within pairs) (each_once xs)) e

-- once nothing is left, these are all steps
pub found_all : (pairs : List Pair) (ns : List ℕ) (place : ℕ) (found : List Within) → length ns ≤ place
    → found ++ counted place (drop place ns) ≡ counted 0 ns → ns ≡ in_order pairs → found ≡ steps pairs
found_all pairs ns place found past is e =
    sym (append-nil found) ∙ ap (λ (xs : List ℕ). found ++ counted place xs) (sym (drop_all place ns past)) ∙ is ∙ all_steps pairs ns e
