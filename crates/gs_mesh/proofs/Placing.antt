-- A peer is put in its place among ascending ones.
use Rattle.std.proofs.Common.{◌≡◌, ◌≤◌, ◌<◌, ◌+◌, ◌-◌, ℕ, zero, suc, ⊎_elim, List, [], ◌∷◌, length, Less, Equal, Greater, refl, sym, ap, subst, ◌∙◌, arith}
use Rattle.std.specs.declared.cmp.Ordering.{Ordering}
use Rattle.std.specs.FinMap.Entries.{by_order}
use Rattle.std.specs.Prelude.{insert, get_or}
use Rattle.std.specs.List.{AllPairs}
use Rattle.std.specs.List.Sorted.{IsNonDecreasingBy, IsPartitionPoint}
use Rattle.std.specs.Ordering.{MatchOrdering, nat_cmp, ordering_index}
use Rattle.std.specs.Cmp.{ranks}
use Rattle.std.proofs.lemmas.Bool.{cases_lt}
use Rattle.std.proofs.lemmas.Bool.Decides.{nat_tests}
use Rattle.std.proofs.lemmas.List.Edits.{get_or-insert_above, get_or-insert_at, get_or-insert_below, length-insert}
use Rattle.gs_base.specs.declared.names.PeerNo.{PeerNo}
use Rattle.gs_params.specs.Picks.{IsAscending}
use Rattle.gs_mesh.specs.Peers.{put_in}

-- an insert between those that stand before it and those that stand after it
all_pairs_insert : {X : Type 0} (R : X → X → Type 0) (xs : List X) (i : ℕ) (y : X)
    → i ≤ length xs
    → AllPairs R xs
    → ((k : ℕ) (d : X) → k < i → R (get_or xs k d) y)
    → ((k : ℕ) (d : X) → i ≤ k → k < length xs → R y (get_or xs k d))
    → AllPairs R (insert xs i y)
all_pairs_insert {X} R xs i y le pairs before behind a b d lt within =
    ⊎_elim
    (λ (bi : b < i). rw (low a (omega (arith, lt, bi)), low b bi) (pairs a b d lt (omega (arith, bi, le))))
    (λ (ib : i ≤ b). ⊎_elim (λ (past : i < b). from_above past) (λ (no_more : b ≤ i). at_place ib no_more) (cases_lt i b))
    (cases_lt b i)
  where
    long : length (insert xs i y) ≡ length xs + 1
    long = length-insert xs i y le

    low : (k : ℕ) → k < i → get_or (insert xs i y) k d ≡ get_or xs k d
    low k below = get_or-insert_below xs i y d k below le

    at : (k : ℕ) → k ≡ i → get_or (insert xs i y) k d ≡ y
    at k is = ap (λ n. get_or (insert xs i y) n d) is ∙ get_or-insert_at xs i y d le

    high : (k : ℕ) → i < k → get_or (insert xs i y) k d ≡ get_or xs (k - 1) d
    high k past =
        let back : k ≡ k - 1 + 1 = omega (arith, past) in
        ap (λ n. get_or (insert xs i y) n d) back ∙ get_or-insert_above xs i y d (k - 1) (omega (arith, past)) le

    at_place : i ≤ b → b ≤ i → R (get_or (insert xs i y) a d) (get_or (insert xs i y) b d)
    at_place ib bi =
        let is : b ≡ i = omega (arith, ib, bi) in
        let ai : a < i = omega (arith, lt, bi) in
        rw (low a ai, at b is) (before a d ai)

    from_above : i < b → R (get_or (insert xs i y) a d) (get_or (insert xs i y) b d)
    from_above past =
        let short : b - 1 < length xs = omega (arith, long, within, past) in
        let behind_it : i ≤ b - 1 = omega (arith, past) in
        ⊎_elim
        (λ (ai : a < i). let less : a < b - 1 = omega (arith, ai, past) in rw (low a ai, high b past) (pairs a (b - 1) d less short))
        (λ (ia : i ≤ a). ⊎_elim
        (λ (more : i < a). let less : a - 1 < b - 1 = omega (arith, lt, more) in rw (high a more, high b past) (pairs (a - 1) (b - 1) d less short))
        (λ (ai : a ≤ i). let is : a ≡ i = omega (arith, ia, ai) in rw (at a is, high b past) (behind (b - 1) d behind_it short))
        (cases_lt i a))
        (cases_lt a i)

-- ---- what a search finds

higher : (a b x : ℕ) → a ≤ b → ordering_index (nat_cmp a x) ≤ ordering_index (nat_cmp b x)
higher a b x le = grind (arith, nat_tests)

-- ascending peers rise, compared with one
rising : (qs : List PeerNo) (p : PeerNo) → IsAscending qs → IsNonDecreasingBy (λ (q : PeerNo). ordering_index (nat_cmp q.0 p.0)) qs
rising qs p up i j d le lt =
    ⊎_elim
    (λ (less : i < j). higher (get_or qs i d).0 (get_or qs j d).0 p.0 (omega (arith, up i j d less lt)))
    (λ (no_less : j ≤ i). let same : j ≡ i = omega (arith, le, no_less) in higher (get_or qs i d).0 (get_or qs j d).0 p.0 (rw same (omega arith)))
    (cases_lt i j)

-- the place before which all are below a peer, and from which on all are above it
abbrev pub IsPlace : List PeerNo → PeerNo → ℕ → Type 0
IsPlace qs p i = IsPartitionPoint (λ (q : PeerNo). nat_cmp q.0 p.0 ≡ Less) (λ (q : PeerNo). nat_cmp q.0 p.0 ≡ Greater) qs i

pub placed : (qs : List PeerNo) (p : PeerNo) (i : ℕ) → IsAscending qs → (IsNonDecreasingBy (λ (q : PeerNo). ordering_index (nat_cmp q.0 p.0)) qs → IsPlace qs p i) → IsPlace qs p i
placed qs p i up search_says = search_says (rising qs p up)

pub ascending_with : (qs : List PeerNo) (p : PeerNo) (i : ℕ) → i ≤ length qs → IsAscending qs → IsPlace qs p i → IsAscending (insert qs i p)
ascending_with qs p i le up parted =
    all_pairs_insert (λ (q r : PeerNo). q.0 < r.0) qs i p le up
    (λ k d below. subst (λ o. MatchOrdering o ((get_or qs k d).0 < p.0) ((get_or qs k d).0 ≡ p.0) (p.0 < (get_or qs k d).0)) (parted.0 k d (omega arith) below) (ranks (get_or qs k d).0 p.0))
    (λ k d from below. subst (λ o. MatchOrdering o ((get_or qs k d).0 < p.0) ((get_or qs k d).0 ≡ p.0) (p.0 < (get_or qs k d).0)) (parted.1 k d from below) (ranks (get_or qs k d).0 p.0))

-- a list whose rest is in order as well
tail_ascends : (q : PeerNo) (qs : List PeerNo) → IsAscending (q ∷ qs) → IsAscending qs
tail_ascends q qs up a b d lt within = up (suc a) (suc b) d (omega (arith, lt)) (omega (arith, within))

-- what comes of a peer, by how the first of others stands to it
abbrev by_first : PeerNo → PeerNo → List PeerNo → Ordering → List PeerNo
by_first p q qs o = by_order o (q ∷ put_in p qs) (q ∷ qs) (p ∷ q ∷ qs)

-- an insert at its place
pub put_at_place : (qs : List PeerNo) (p : PeerNo) (i : ℕ) → i ≤ length qs → IsPlace qs p i → insert qs i p ≡ put_in p qs
put_at_place [] p zero le parted = refl
put_at_place [] p (suc i) le parted = absurd (omega (arith, le))
put_at_place (q ∷ qs) p zero le parted = ap (by_first p q qs) (sym (parted.1 0 q (omega arith) (omega arith)))
put_at_place (q ∷ qs) p (suc i) le parted =
    ap (λ (rs : List PeerNo). q ∷ rs) (put_at_place qs p i (omega (arith, le)) rest) ∙ ap (by_first p q qs) (sym (parted.0 0 q (omega arith) (omega arith)))
  where
    rest : IsPlace qs p i
    rest = ((λ k d below past. parted.0 (suc k) d (omega (arith, below)) (omega (arith, past))), (λ k d past below. parted.1 (suc k) d (omega (arith, past)) (omega (arith, below))))

-- who is found was there
pub found_is_there : (qs : List PeerNo) (p : PeerNo) (i : ℕ) → IsAscending qs → i < length qs → ((d : PeerNo) → nat_cmp (get_or qs i d).0 p.0 ≡ Equal) → qs ≡ put_in p qs
found_is_there [] p i up within found = absurd (omega (arith, within))
found_is_there (q ∷ qs) p zero up within found = ap (by_first p q qs) (sym (found q))
found_is_there (q ∷ qs) p (suc i) up within found =
    ap (λ (rs : List PeerNo). q ∷ rs) (found_is_there qs p i (tail_ascends q qs up) (omega (arith, within)) found) ∙ ap (by_first p q qs) (sym below)
  where
    same : (get_or qs i q).0 ≡ p.0
    same = subst (λ o. MatchOrdering o ((get_or qs i q).0 < p.0) ((get_or qs i q).0 ≡ p.0) (p.0 < (get_or qs i q).0)) (found q) (ranks (get_or qs i q).0 p.0)

    less : q.0 < (get_or qs i q).0
    less = up 0 (suc i) q (omega arith) (omega (arith, within))

    below : nat_cmp q.0 p.0 ≡ Less
    below = grind (arith, nat_tests, same, less)
