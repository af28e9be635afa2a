-- The numbers of a set, and the peers of a plan with these numbers.
use Rattle.std.proofs.Common.{◌≡◌, ℕ, zero, suc, ◌+◌, ◌<◌, ◌≤◌, Bool, true, false, ◌&&◌, ◌||◌, cond, leb, ltb, List, [], ◌∷◌, map, filter, refl, sym, ap, ◌∙◌, arith}
use Rattle.std.specs.Prelude.{nat_eq, nat_lt}
use Rattle.std.specs.List.{list_any, range_with_len}
use Rattle.std.specs.Ordering.{is_eq, nat_cmp}
use Rattle.std.specs.List.Sorted.{IsStrictlySortedBy}
use Rattle.std.specs.BTreeSet.{BTreeSet, IsOrdered, contains}
use Rattle.std.proofs.lemmas.Cmp.{nat_cmp_total}
use Rattle.std.proofs.lemmas.List.FromFn.{get_or-range_with_len, length-range_with_len}
use Rattle.std.proofs.lemmas.List.Kept.{IsStrictlySortedBy-filter}
use Rattle.std.proofs.lemmas.Map.Keys.{sorted_from_strictly_increasing}
use Rattle.std.proofs.lemmas.Map.Lookups.{btree_set_from_contains, exact_unsigned}
use Rattle.std.proofs.lemmas.Map.Views.{any-filter_same, tells_apart}
use Rattle.gs_base.specs.declared.names.PeerNo.{PeerNo}
use Rattle.gs_seats.specs.Rounds.{peer_no}

-- ---- numbers in order

range_sorted : (a n : ℕ) → IsStrictlySortedBy nat_cmp (range_with_len a n)
range_sorted a n = sorted_from_strictly_increasing (range_with_len a n) (λ k within.
    let many = length-range_with_len a n in
    let here = get_or-range_with_len a n k 0 (omega (arith, within, many)) in
    let next = get_or-range_with_len a n (k + 1) 0 (omega (arith, within, many)) in
    omega (arith, here, next))

in_range : (q a n : ℕ) → list_any (λ k. is_eq (nat_cmp q k)) (range_with_len a n) ≡ (leb a q && ltb q (a + n))
in_range q a zero = grind arith
in_range q a (suc n) = ap (λ (b : Bool). is_eq (nat_cmp q a) || b) (in_range q (a + 1) n) ∙ grind arith

any_below : (q n : ℕ) → list_any (λ k. is_eq (nat_cmp q k)) (range_with_len 0 n) ≡ nat_lt q n
any_below q n = in_range q 0 n ∙ grind arith

-- a filter by number
map_filter : (test : PeerNo → Bool) (ns : List ℕ) → map peer_no (filter (λ n. test (peer_no n)) ns) ≡ filter test (map peer_no ns)
map_filter test [] = refl
map_filter test (n ∷ ns) = by (test (peer_no n)) (map_filter test ns)
  where
    by : (b : Bool) → map peer_no (filter (λ m. test (peer_no m)) ns) ≡ filter test (map peer_no ns) → map peer_no (cond b (n ∷ filter (λ m. test (peer_no m)) ns) (filter (λ m. test (peer_no m)) ns)) ≡ cond b (peer_no n ∷ filter test (map peer_no ns)) (filter test (map peer_no ns))
    by true rest = ap (λ (ps : List PeerNo). peer_no n ∷ ps) rest
    by false rest = rest

-- the peers with the numbers of a set are those below a count that pass a test, where the set has just these numbers
pub as_filter : (count : ℕ) (test : PeerNo → Bool) (s : BTreeSet ℕ) → IsOrdered nat_cmp s → ((n : ℕ) → contains nat_cmp s n ≡ (nat_lt n count && test (peer_no n))) → map peer_no s.keys ≡ filter test (map peer_no (range_with_len 0 count))
as_filter count test s ordered has =
    let passing : BTreeSet ℕ = record { keys = filter (λ n. test (peer_no n)) (range_with_len 0 count) } in
    let same : s.keys ≡ passing.keys = btree_set_from_contains nat_cmp_total s passing ordered (IsStrictlySortedBy-filter nat_cmp (λ n. test (peer_no n)) (range_with_len 0 count) (range_sorted 0 count)) (λ n. has n ∙ sym (found n)) exact_unsigned in
    ap (map peer_no) same ∙ map_filter test (range_with_len 0 count)
  where
    swap : (a b : Bool) → (a && b) ≡ (b && a)
    swap true true = refl
    swap true false = refl
    swap false true = refl
    swap false false = refl

    found : (n : ℕ) → list_any (λ k. is_eq (nat_cmp n k)) (filter (λ m. test (peer_no m)) (range_with_len 0 count)) ≡ (nat_lt n count && test (peer_no n))
    found n =
        any-filter_same (λ k. is_eq (nat_cmp n k)) (λ m. test (peer_no m)) (test (peer_no n)) (λ k is. ap (λ (m : ℕ). test (peer_no m)) (sym (tells_apart exact_unsigned n k is))) (range_with_len 0 count)
        ∙ ap (λ (b : Bool). test (peer_no n) && b) (any_below n count)
        ∙ swap (test (peer_no n)) (nat_lt n count)

-- ---- one number more

-- a number below the count was put into a set
pub put_below : (k n count : ℕ) (b : Bool) → k < count → cond (is_eq (nat_cmp k n)) true b ≡ (b || (nat_lt n count && nat_eq k n))
put_below k n count b below = grind arith

-- a number that is not below the count was left out
pub left_above : (k n count : ℕ) (b : Bool) → count ≤ k → b ≡ (b || (nat_lt n count && nat_eq k n))
left_above k n count b above = grind arith
