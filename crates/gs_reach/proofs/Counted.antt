-- What is counted of subscribers, and percentiles.
use Rattle.std.proofs.Common.{◌≡◌, ◌≤◌, ◌<◌, ◌*◌, ◌-◌, ◌++◌, ◌∙◌, ◌⊎◌, ℕ, zero, suc, Bool, true, false, cond, leb, List, [], ◌∷◌, length, Option, Some, None, refl, ap, inl, inr, arith}
use Rattle.std.specs.Prelude.{is_some, max, option_to_list, slice_get}
use Rattle.std.specs.List.{filter}
use Rattle.std.proofs.Math.Nat.{mul-le-mul_left}
use Rattle.std.proofs.lemmas.Bool.{cond_both, cond-true, cond-false, le-leb, lt-leb, leb-true, false≢true}
use Rattle.gs_reach.specs.declared.pairs.Pair.{Pair}
use Rattle.gs_reach.specs.Order.{ascending, placed}
use Rattle.gs_reach.specs.Reached.{is_at_most, is_reached, is_reached_within, percentile, rank, reached, reached_within, rounds_of, fewest}
use Rattle.gs_reach.proofs.Ordered.{Ascends, Ascends-ascending, From}

-- a test that passes wherever another does
step_more : {X : Type 0} (b c : Bool) (x : X) (fs gs : List X) → (b ≡ true → c ≡ true) → length fs ≤ length gs
    → length (cond b (x ∷ fs) fs) ≤ length (cond c (x ∷ gs) gs)
step_more true true x fs gs h le = omega arith
step_more true false x fs gs h le = absurd (false≢true (h refl))
step_more false true x fs gs h le = omega arith
step_more false false x fs gs h le = le

at_most_more : (few many : ℕ) (n : Option ℕ) → few ≤ many → is_at_most few n ≡ true → is_at_most many n ≡ true
at_most_more few many None le h = absurd (false≢true h)
at_most_more few many (Some n) le h = let below = leb-true n few h in le-leb n many (omega arith)

pub reached_more : (pairs : List Pair) (few many : ℕ) → few ≤ many → reached_within few pairs ≤ reached_within many pairs
reached_more [] few many le = omega arith
reached_more (x ∷ xs) few many le =
    step_more (is_at_most few x.rounds) (is_at_most many x.rounds) x (filter (is_reached_within few) xs) (filter (is_reached_within many) xs)
    (at_most_more few many x.rounds le) (reached_more xs few many le)

-- ---- numbers of rounds

-- how many of these are not above a limit
abbrev up_to : ℕ → List ℕ → ℕ
up_to k ns = length (filter (λ n. leb n k) ns)

one_reached : (k : ℕ) (x : Pair) (n : Option ℕ) (fs : List Pair) (ns : List ℕ) → length fs ≡ up_to k ns
    → length (cond (is_at_most k n) (x ∷ fs) fs) ≡ up_to k (option_to_list n ++ ns)
one_reached k x None fs ns e = e
one_reached k x (Some n) fs ns e = both (leb n k) (filter (λ m. leb m k) ns) e
  where
    both : (b : Bool) (ms : List ℕ) → length fs ≡ length ms → length (cond b (x ∷ fs) fs) ≡ length (cond b (n ∷ ms) ms)
    both true ms e = ap suc e
    both false ms e = e

within_is : (k : ℕ) (pairs : List Pair) → reached_within k pairs ≡ up_to k (rounds_of pairs)
within_is k [] = refl
within_is k (x ∷ xs) = one_reached k x x.rounds (filter (is_reached_within k) xs) (rounds_of xs) (within_is k xs)

one_some : (x : Pair) (n : Option ℕ) (fs : List Pair) (ns : List ℕ) → length fs ≡ length ns
    → length (cond (is_some n) (x ∷ fs) fs) ≡ length (option_to_list n ++ ns)
one_some x None fs ns e = e
one_some x (Some n) fs ns e = ap suc e

reached_is : (pairs : List Pair) → reached pairs ≡ length (rounds_of pairs)
reached_is [] = refl
reached_is (x ∷ xs) = one_some x x.rounds (filter is_reached xs) (rounds_of xs) (reached_is xs)

abbrev in_order : List ℕ → List ℕ
in_order ns = ascending (λ n. n) ns

abbrev put : ℕ → List ℕ → List ℕ
put n ns = placed (λ m. m) n ns

swapped : (b c : Bool) (x y : ℕ) (zs : List ℕ)
    → length (cond b (y ∷ cond c (x ∷ zs) zs) (cond c (x ∷ zs) zs)) ≡ length (cond c (x ∷ cond b (y ∷ zs) zs) (cond b (y ∷ zs) zs))
swapped true true x y zs = refl
swapped true false x y zs = refl
swapped false true x y zs = refl
swapped false false x y zs = refl

same_length : (b : Bool) (y : ℕ) (us vs : List ℕ) → length us ≡ length vs → length (cond b (y ∷ us) us) ≡ length (cond b (y ∷ vs) vs)
same_length true y us vs e = ap suc e
same_length false y us vs e = e

up_to_put : (k x : ℕ) (ys : List ℕ) → up_to k (put x ys) ≡ up_to k (x ∷ ys)
up_to_put k x [] = refl
up_to_put k x (y ∷ ys) =
    cond_both (leb x y) (x ∷ y ∷ ys) (y ∷ put x ys) (λ zs. up_to k zs ≡ up_to k (x ∷ y ∷ ys)) (λ _. refl)
    (λ _. same_length (leb y k) y (filter (λ n. leb n k) (put x ys)) (filter (λ n. leb n k) (x ∷ ys)) (up_to_put k x ys)
    ∙ swapped (leb y k) (leb x k) x y (filter (λ n. leb n k) ys))

up_to_in_order : (k : ℕ) (ns : List ℕ) → up_to k (in_order ns) ≡ up_to k ns
up_to_in_order k [] = refl
up_to_in_order k (n ∷ ns) =
    up_to_put k n (in_order ns) ∙ same_length (leb n k) n (filter (λ m. leb m k) (in_order ns)) (filter (λ m. leb m k) ns) (up_to_in_order k ns)

length_put : (x : ℕ) (ys : List ℕ) → length (put x ys) ≡ suc (length ys)
length_put x [] = refl
length_put x (y ∷ ys) =
    cond_both (leb x y) (x ∷ y ∷ ys) (y ∷ put x ys) (λ zs. length zs ≡ suc (suc (length ys))) (λ _. refl) (λ _. ap suc (length_put x ys))

length_in_order : (ns : List ℕ) → length (in_order ns) ≡ length ns
length_in_order [] = refl
length_in_order (n ∷ ns) = length_put n (in_order ns) ∙ ap suc (length_in_order ns)

-- ---- ranks in ascending numbers

none_below : (k n : ℕ) (ns : List ℕ) → k < n → From (λ m. m) n ns → up_to k ns ≡ 0
none_below k n [] lt f = refl
none_below k n (m ∷ ms) lt f =
    ap (λ (ns : List ℕ). length ns) (cond-false (leb m k) (m ∷ filter (λ i. leb i k) ms) (filter (λ i. leb i k) ms) (lt-leb m k (omega (arith, f.0))))
    ∙ none_below k n ms lt f.1

some_same : (a b : ℕ) → Some a ≡ Some b → a ≡ b
some_same a b e = cc

at_place : (i n m : ℕ) (ns : List ℕ) → From (λ j. j) m ns → slice_get ns i ≡ Some n → m ≤ n
at_place i n m [] f e = absurd cc
at_place zero n m (x ∷ xs) f e = let same = some_same x n e in omega (arith, f.0)
at_place (suc i) n m (x ∷ xs) f e = at_place i n m xs f.1 e

rank_reached : (i n : ℕ) (ns : List ℕ) → Ascends (λ j. j) ns → slice_get ns i ≡ Some n → suc i ≤ up_to n ns
rank_reached i n [] a e = absurd cc
rank_reached zero n (x ∷ xs) a e =
    let same = some_same x n e in
    let counts = ap (λ (ns : List ℕ). length ns) (cond-true (leb x n) (x ∷ filter (λ j. leb j n) xs) (filter (λ j. leb j n) xs) (le-leb x n (omega arith))) in
    omega (arith, counts)
rank_reached (suc i) n (x ∷ xs) a e =
    let below = at_place i n x xs a.0 e in
    let counts = ap (λ (ns : List ℕ). length ns) (cond-true (leb x n) (x ∷ filter (λ j. leb j n) xs) (filter (λ j. leb j n) xs) (le-leb x n below)) in
    let rest = rank_reached i n xs a.1 e in
    omega (arith, counts, rest)

at_most_one : (b : Bool) (x : ℕ) (ns : List ℕ) → length (cond b (x ∷ ns) ns) ≤ suc (length ns)
at_most_one true x ns = omega arith
at_most_one false x ns = omega arith

rank_not_before : (i k n : ℕ) (ns : List ℕ) → Ascends (λ j. j) ns → k < n → slice_get ns i ≡ Some n → up_to k ns ≤ i
rank_not_before i k n [] a lt e = absurd cc
rank_not_before zero k n (x ∷ xs) a lt e =
    let same = some_same x n e in
    let none = none_below k x (x ∷ xs) (omega arith) (omega arith, a.0) in
    omega (arith, none)
rank_not_before (suc i) k n (x ∷ xs) a lt e =
    let one = at_most_one (leb x k) x (filter (λ j. leb j k) xs) in
    let rest = rank_not_before i k n xs a.1 lt e in
    omega (arith, one, rest)

none_left : (i : ℕ) (ns : List ℕ) → slice_get ns i ≡ None → length ns ≤ i
none_left i [] e = omega arith
none_left zero (x ∷ xs) e = absurd cc
none_left (suc i) (x ∷ xs) e = let rest = none_left i xs e in omega arith

-- ---- percentiles

pub percentile_within : (rank n : ℕ) (pairs : List Pair) → 1 ≤ rank → fewest rank pairs ≡ Some n → rank ≤ reached_within n pairs
percentile_within rank n pairs some e =
    let within = rank_reached (rank - 1) n (in_order (rounds_of pairs)) (Ascends-ascending (λ j. j) (rounds_of pairs)) e in
    omega (arith, within, up_to_in_order n (rounds_of pairs), within_is n pairs)

pub percentile_not_before : (rank n : ℕ) (pairs : List Pair) → 1 ≤ rank → 1 ≤ n → fewest rank pairs ≡ Some n → reached_within (n - 1) pairs < rank
percentile_not_before rank n pairs some above e =
    let before = rank_not_before (rank - 1) (n - 1) n (in_order (rounds_of pairs)) (Ascends-ascending (λ j. j) (rounds_of pairs)) (omega arith) e in
    omega (arith, before, up_to_in_order (n - 1) (rounds_of pairs), within_is (n - 1) pairs)

pub percentile_none : (rank : ℕ) (pairs : List Pair) → 1 ≤ rank → fewest rank pairs ≡ None → reached pairs < rank
percentile_none rank pairs some e =
    let left = none_left (rank - 1) (in_order (rounds_of pairs)) e in
    omega (arith, left, length_in_order (rounds_of pairs), reached_is pairs)

-- ---- percentiles in order

lt_or_le : (a b : ℕ) → (a < b) ⊎ (b ≤ a)
lt_or_le a zero = inr (omega arith)
lt_or_le zero (suc b) = inl (omega arith)
lt_or_le (suc a) (suc b) = elim (lt_or_le a b) [
  | inl lower ↦ inl (omega (arith, lower))
  | inr past ↦ inr (omega (arith, past))
]

pub ranks_ascend : (lower higher m n : ℕ) (pairs : List Pair) → 1 ≤ lower → lower ≤ higher → fewest lower pairs ≡ Some m → fewest higher pairs ≡ Some n → m ≤ n
ranks_ascend lower higher m n pairs some le e e' = elim (lt_or_le n m) [
  | inl fewer ↦ absurd (too_many fewer)
  | inr above ↦ above
]
  where
    too_many : n < m → ⊥
    too_many fewer =
        let enough = percentile_within higher n pairs (omega arith) e' in
        let too_few = percentile_not_before lower m pairs some (omega (arith, fewer)) e in
        let more = reached_more pairs n (m - 1) (omega (arith, fewer)) in
        omega (arith, enough, too_few, more)

ranks_follow_percentages : (lower higher count : ℕ) → lower ≤ higher → rank lower count ≤ rank higher count
ranks_follow_percentages lower higher count le =
    let more : count * lower ≤ count * higher = mul-le-mul_left count le in
    omega (arith, more)

pub percentages_ascend : (lower higher m n : ℕ) (pairs : List Pair) → lower ≤ higher → percentile lower pairs ≡ Some m → percentile higher pairs ≡ Some n → m ≤ n
percentages_ascend lower higher m n pairs le e e' =
    ranks_ascend (rank lower (length pairs)) (rank higher (length pairs)) m n pairs (omega arith) (ranks_follow_percentages lower higher (length pairs) le) e e'

pub first_is_least : (percent m n : ℕ) (pairs : List Pair) → fewest 1 pairs ≡ Some m → percentile percent pairs ≡ Some n → m ≤ n
first_is_least percent m n pairs e e' =
    ranks_ascend 1 (rank percent (length pairs)) m n pairs (omega arith) (omega arith) e e'
