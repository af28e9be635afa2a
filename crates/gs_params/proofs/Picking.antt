-- What is picked is a choice: as many of the candidates as are asked for, ascending, and none twice.
use Rattle.std.proofs.Common.{◌≡◌, ℕ, zero, suc, ◌+◌, ◌-◌, ◌%◌, ◌<◌, ◌≤◌, nat_le, Bool, true, false, List, [], ◌∷◌, ◌++◌, length, take, drop, min, filter, refl, sym, ap, ◌∙◌, arith}
use Rattle.std.specs.Prelude.{◌&&◌, ◌||◌, swap, All, Contains, Decides, IsPermutation}
use Rattle.std.specs.Cmp.{IsEquivalence}
use Rattle.std.specs.List.{list_any, AllByRecursion, IsDistinct}
use Rattle.std.specs.Set.{is_member}
use Rattle.std.proofs.lemmas.Bool.Decides.{nat_tests, Decides-eqb}
use Rattle.std.proofs.lemmas.Cmp.{nat_eq_equiv, on_equiv}
use Rattle.std.proofs.lemmas.List.{take-append-drop, length-take-le}
use Rattle.std.proofs.lemmas.List.Edits.{length-swap}
use Rattle.std.proofs.lemmas.List.Elements.{All-contains_itself, All-filter}
use Rattle.std.proofs.lemmas.List.Folds.{list_any-append}
use Rattle.std.proofs.lemmas.List.Kept.{AllPairs-filter}
use Rattle.std.proofs.lemmas.List.Quantifiers.{all_pairs_push}
use Rattle.std.proofs.lemmas.List.Sorted.{IsPermutation-refl, IsPermutation-trans, IsPermutation-swap, list_any-IsPermutation, length_permutation}
use Rattle.std.proofs.lemmas.Map.Keys.{IsDistinct-from_apart, IsDistinct-IsPermutation}
use Rattle.std.proofs.lemmas.Map.Made.{is_member-filter, length-from_same_keys}
use Rattle.gs_base.specs.declared.names.PeerNo.{PeerNo}
use Rattle.gs_base.specs.Names.{same_peer}
use Rattle.gs_params.specs.Picks.{IsAscending, IsSample, next_words, after_words, shuffled, picked, picked_words}

-- ---- peers

pub same_peer_equiv : IsEquivalence same_peer
same_peer_equiv = on_equiv (λ (p : PeerNo). p.0) nat_eq_equiv

same_from_test : (p q : PeerNo) → same_peer p q ≡ true → p ≡ q
same_from_test p q h = let e : p.0 ≡ q.0 = (Decides-eqb p.0 q.0).0 h in ap (λ (n : ℕ). let r : PeerNo = record { 0 = n } in r) e

pub same_peer_decides : (p q : PeerNo) → Decides (same_peer p q) (p ≡ q)
same_peer_decides p q = (same_from_test p q, λ e. ap (λ (r : PeerNo). same_peer r q) e ∙ same_peer_equiv.refl q)

below_is_apart : (p q : PeerNo) → p.0 < q.0 → same_peer p q ≡ false
below_is_apart p q h = grind (arith, nat_tests)

-- no peer stands twice in an ascending list
pub distinct_from_ascending : (peers : List PeerNo) → IsAscending peers → IsDistinct same_peer peers
distinct_from_ascending peers up = IsDistinct-from_apart same_peer peers (λ i j d before within. below_is_apart _ _ (up i j d before within))

-- one more, after all that are there
pub ascending_push : (peers : List PeerNo) (p : PeerNo) → IsAscending peers → All (λ q. q.0 < p.0) peers → IsAscending (peers ++ p ∷ [])
ascending_push peers p up below = all_pairs_push (λ (q r : PeerNo). q.0 < r.0) peers p up below

pub ascending_filter : (test : PeerNo → Bool) (peers : List PeerNo) → IsAscending peers → IsAscending (filter test peers)
ascending_filter test peers up = AllPairs-filter (λ (p q : PeerNo). p.0 < q.0) test peers up

-- ---- shuffles

length-next_words : {S : Type 0} (word : S → ℕ) (after : S → S) (n : ℕ) (s : S) → length (next_words word after n s) ≡ n
unfolding next_words
length-next_words word after zero s = refl
length-next_words word after (suc n) s = ap suc (length-next_words word after n (after s))

-- a shuffle only moves elements
shuffled_moves : {A : Type 0} (i : ℕ) (ws : List ℕ) (xs : List A) → i + length ws ≤ length xs → IsPermutation xs (shuffled i ws xs)
unfolding shuffled
shuffled_moves i [] xs room = IsPermutation-refl xs
shuffled_moves i (w ∷ ws) xs room =
    let j = i + w % (length xs - i) in
    let here : i < length xs = omega arith in
    let there : i + w % (length xs - i) < length xs = omega arith in
    let more : i + 1 + length ws ≤ length (swap xs i (i + w % (length xs - i))) = rw (length-swap xs i (i + w % (length xs - i))) (omega arith) in
    IsPermutation-trans xs (swap xs i j) (shuffled (i + 1) ws (swap xs i j)) (IsPermutation-swap xs (swap xs i j) i j here there refl) (shuffled_moves (i + 1) ws (swap xs i j) more)

-- ---- the front of a shuffle

-- who is in the front is in the whole
member_of_front : (k : ℕ) (ys : List PeerNo) (p : PeerNo) → is_member same_peer (take k ys) p ≡ true → is_member same_peer ys p ≡ true
member_of_front k ys p h =
    let parts : is_member same_peer ys p ≡ (is_member same_peer (take k ys) p || is_member same_peer (drop k ys) p) = ap (list_any (same_peer p)) (sym (take-append-drop k ys)) ∙ list_any-append (same_peer p) (take k ys) (drop k ys) in
    rw (parts, h) refl

and_absorbed : (a b : Bool) → (b ≡ true → a ≡ true) → (a && b) ≡ b
and_absorbed true b h = refl
and_absorbed false true h = h refl
and_absorbed false false h = refl

-- of the candidates, those in the front of their shuffle are just those in the front
front_is_kept : (k : ℕ) (xs ys : List PeerNo) (p : PeerNo) → IsPermutation xs ys → is_member same_peer (filter (is_member same_peer (take k ys)) xs) p ≡ is_member same_peer (take k ys) p
front_is_kept k xs ys p moved =
    let front = take k ys in
    let alike : (q : PeerNo) → same_peer p q ≡ true → is_member same_peer front p ≡ is_member same_peer front q = λ q h. ap (is_member same_peer front) (same_from_test p q h) in
    is_member-filter same_peer_equiv (is_member same_peer front) p alike xs
    ∙ and_absorbed (is_member same_peer xs p) (is_member same_peer front p) (λ h. list_any-IsPermutation (same_peer p) xs ys moved ∙ member_of_front k ys p h)

apart_in_front : (P : PeerNo → Type 0) (k : ℕ) (ys : List PeerNo) → AllByRecursion P ys → AllByRecursion P (take k ys)
apart_in_front P zero ys h = tt
apart_in_front P (suc k) [] h = tt
apart_in_front P (suc k) (y ∷ ys) h = (h.0, apart_in_front P k ys h.1)

distinct_front : (k : ℕ) (ys : List PeerNo) → IsDistinct same_peer ys → IsDistinct same_peer (take k ys)
unfolding IsDistinct
distinct_front zero ys d = tt
distinct_front (suc k) [] d = tt
distinct_front (suc k) (y ∷ ys) d = (apart_in_front (λ q. same_peer y q ≡ false) k ys d.0, distinct_front k ys d.1)

-- ---- picks

-- all are picked where they are at most k
pub picked_all : {S : Type 0} (word : S → ℕ) (after : S → S) (k : ℕ) (xs : List PeerNo) (s : S) → length xs ≤ k → picked word after k xs s ≡ xs
unfolding picked
picked_all word after k xs s h = let e : nat_le (length xs) k ≡ true = grind (arith, nat_tests) in rw e refl

pub picked_all_words : {S : Type 0} (word : S → ℕ) (after : S → S) (k : ℕ) (xs : List PeerNo) (s : S) → length xs ≤ k → picked_words word after k xs s ≡ s
unfolding picked_words
picked_all_words word after k xs s h = let e : nat_le (length xs) k ≡ true = grind (arith, nat_tests) in rw e refl

-- else those in the first k places of the shuffle
pub picked_some : {S : Type 0} (word : S → ℕ) (after : S → S) (k : ℕ) (xs : List PeerNo) (s : S) → k < length xs → picked word after k xs s ≡ filter (is_member same_peer (take k (shuffled 0 (next_words word after k s) xs))) xs
unfolding picked
picked_some word after k xs s h = let e : nat_le (length xs) k ≡ false = grind (arith, nat_tests) in rw e refl

pub picked_some_words : {S : Type 0} (word : S → ℕ) (after : S → S) (k : ℕ) (xs : List PeerNo) (s : S) → k < length xs → picked_words word after k xs s ≡ after_words word after k s
unfolding picked_words
picked_some_words word after k xs s h = let e : nat_le (length xs) k ≡ false = grind (arith, nat_tests) in rw e refl

-- those that pass a test are among the candidates, as they stand there
sample_by_test : (k : ℕ) (test : PeerNo → Bool) (xs : List PeerNo) → IsAscending xs → length (filter test xs) ≡ min k (length xs) → IsSample k xs (filter test xs)
sample_by_test k test xs up n =
    let still : IsAscending (filter test xs) = ascending_filter test xs up in
    record {
      count = n;
      members = All-filter test (Contains xs) xs (All-contains_itself xs);
      ascending = still;
      distinct = distinct_from_ascending (filter test xs) still;
    }

sample_of_all : (k : ℕ) (xs : List PeerNo) → IsAscending xs → length xs ≤ k → IsSample k xs xs
sample_of_all k xs up h = record {
  count = omega arith;
  members = All-contains_itself xs;
  ascending = up;
  distinct = distinct_from_ascending xs up;
}

sample_of_front : (k : ℕ) (xs ys : List PeerNo) → IsAscending xs → IsPermutation xs ys → k < length xs → IsSample k xs (filter (is_member same_peer (take k ys)) xs)
sample_of_front k xs ys up moved h =
    let test = is_member same_peer (take k ys) in
    let kept : IsDistinct same_peer (filter test xs) = distinct_from_ascending (filter test xs) (ascending_filter test xs up) in
    let front : IsDistinct same_peer (take k ys) = distinct_front k ys (IsDistinct-IsPermutation same_peer same_peer_equiv.symm xs ys moved (distinct_from_ascending xs up)) in
    let n : length (filter test xs) ≡ length (take k ys) = length-from_same_keys same_peer_equiv (filter test xs) (take k ys) kept front (λ p. front_is_kept k xs ys p moved) in
    let long : length ys ≡ length xs = length_permutation xs ys moved in
    let m : length (take k ys) ≡ k = length-take-le k ys (omega arith) in
    sample_by_test k test xs up (omega arith)

shuffle_of_all : {S : Type 0} (word : S → ℕ) (after : S → S) (k : ℕ) (xs : List PeerNo) (s : S) → k < length xs → IsPermutation xs (shuffled 0 (next_words word after k s) xs)
shuffle_of_all word after k xs s h = let n = length-next_words word after k s in shuffled_moves 0 (next_words word after k s) xs (omega arith)

sample_by_size : {S : Type 0} (word : S → ℕ) (after : S → S) (k : ℕ) (xs : List PeerNo) (s : S) → IsAscending xs → (all : Bool) → nat_le (length xs) k ≡ all → IsSample k xs (picked word after k xs s)
sample_by_size word after k xs s up true e = let h : length xs ≤ k = grind (arith, nat_tests) in rw (picked_all word after k xs s h) (sample_of_all k xs up h)
sample_by_size word after k xs s up false e = let h : k < length xs = grind (arith, nat_tests) in rw (picked_some word after k xs s h) (sample_of_front k xs (shuffled 0 (next_words word after k s) xs) up (shuffle_of_all word after k xs s h) h)

-- what is picked is a choice of k of the candidates
pub picked_is_sample : {S : Type 0} (word : S → ℕ) (after : S → S) (k : ℕ) (xs : List PeerNo) (s : S) → IsAscending xs → IsSample k xs (picked word after k xs s)
picked_is_sample word after k xs s up = sample_by_size word after k xs s up (nat_le (length xs) k) refl

-- a peer is picked where it stands in one of the first k places
pub picked_from_front : {S : Type 0} (word : S → ℕ) (after : S → S) (k : ℕ) (xs : List PeerNo) (s : S) (p : PeerNo) → k < length xs → is_member same_peer (picked word after k xs s) p ≡ is_member same_peer (take k (shuffled 0 (next_words word after k s) xs)) p
picked_from_front word after k xs s p h = rw (picked_some word after k xs s h) (front_is_kept k xs (shuffled 0 (next_words word after k s) xs) p (shuffle_of_all word after k xs s h))
