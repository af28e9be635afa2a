-- A list with something for each peer of a plan, by number.
use Rattle.std.proofs.Common.{◌≡◌, ◌<◌, ◌≤◌, ◌+◌, ℕ, zero, suc, true, false, length, nat_eq, List, [], ◌∷◌, ◌++◌, map, refl, sym, ap, subst, arith, zero-add}
use Rattle.std.specs.Prelude.{Option, Some, slice_get, slice_set, unwrap_or}
use Rattle.std.specs.List.{AllZip, range_with_len}
use Rattle.std.proofs.lemmas.List.FromFn.{map-range_with_len_more}
use Rattle.gs_base.specs.declared.names.PeerNo.{PeerNo}
use Rattle.gs_seats.specs.Rounds.{peer_no}
use Rattle.gs_opinions.specs.Cells.{by_number}
use Rattle.gs_opinions.proofs.Noted.{all_zip_push}
use Rattle.gs_opinions.proofs.Places.{above, apart}

-- one more
pub zipped_more : {B : Type 0} (R : PeerNo → B → Type 0) (n : ℕ) (ys new : List B) (y : B) → AllZip R (by_number peer_no n) ys → R (peer_no n) y → new ≡ ys ++ y ∷ [] → AllZip R (by_number peer_no (n + 1)) new
zipped_more {B} R n ys new y h r is =
    subst (λ (zs : List B). AllZip R (by_number peer_no (n + 1)) zs) (sym is)
    (subst (λ (ps : List PeerNo). AllZip R ps (ys ++ y ∷ [])) (sym (map-range_with_len_more peer_no 0 n n (zero-add n)))
    (all_zip_push R (by_number peer_no n) ys (peer_no n) y h r))

-- all are replaced by what holds of them
pub zipped_weaker : {A B : Type 0} (R S : A → B → Type 0) → ((x : A) (y : B) → R x y → S x y) → (xs : List A) (ys : List B) → AllZip R xs ys → AllZip S xs ys
zipped_weaker R S so [] [] h = tt
zipped_weaker R S so [] (y ∷ ys) h = absurd h
zipped_weaker R S so (x ∷ xs) [] h = absurd h
zipped_weaker R S so (x ∷ xs) (y ∷ ys) h = (so x y h.0, zipped_weaker R S so xs ys h.1)

module _ {B : Type 0} (R : PeerNo → B → Type 0) where
  abbrev Of : ℕ → ℕ → List B → Type 0
  Of a n ys = AllZip R (map peer_no (range_with_len a n)) ys

  -- what stands at the place of a number
  abbrev Stands : ℕ → List B → ℕ → Type 0
  Stands j ys k = (y : B) × (slice_get ys k ≡ Some y) × R (peer_no j) y

  stands_from : (a n k j : ℕ) → a + k ≡ j → k < n → (ys : List B) → Of a n ys → Stands j ys k
  stands_from a zero k j is low ys h = absurd (omega (arith, low))
  stands_from a (suc n) k j is low [] h = absurd h
  stands_from a (suc n) zero j is low (y ∷ ys) h = (y, refl, subst (λ (i : ℕ). R (peer_no i) y) (omega (arith, is)) h.0)
  stands_from a (suc n) (suc k) j is low (y ∷ ys) h = stands_from (a + 1) n k j (omega (arith, is)) (omega (arith, low)) ys h.1

  pub stands : (n k : ℕ) → k < n → (ys : List B) → Of 0 n ys → Stands k ys k
  stands n k low ys h = stands_from 0 n k k (zero-add k) low ys h

  found_from : (a n k j : ℕ) → a + k ≡ j → (ys : List B) → Of a n ys → (y : B) → slice_get ys k ≡ Some y → (k < n) × R (peer_no j) y
  found_from a zero zero j is [] h y found = absurd cc
  found_from a zero (suc k) j is [] h y found = absurd cc
  found_from a zero k j is (x ∷ ys) h y found = absurd h
  found_from a (suc n) k j is [] h y found = absurd h
  found_from a (suc n) zero j is (x ∷ ys) h y found =
      (omega arith, subst (λ (i : ℕ). R (peer_no i) y) (omega (arith, is)) (subst (R (peer_no a)) (ap (λ (o : Option B). unwrap_or o x) found) h.0))
  found_from a (suc n) (suc k) j is (x ∷ ys) h y found =
      let rest = found_from (a + 1) n k j (omega (arith, is)) ys h.1 y found in
      (omega (arith, rest.0), rest.1)

  pub found_at : (n k : ℕ) (ys : List B) → Of 0 n ys → (y : B) → slice_get ys k ≡ Some y → (k < n) × R (peer_no k) y
  found_at n k ys h y found = found_from 0 n k k (zero-add k) ys h y found

  pub none_at : (n k : ℕ) (ys : List B) → Of 0 n ys → (k < length ys → false ≡ true) → 0 + n ≤ k
  none_at n k ys h out = none_from 0 n k ys h out
    where
      none_from : (a n k : ℕ) (ys : List B) → Of a n ys → (k < length ys → false ≡ true) → 0 + n ≤ k
      none_from a zero k ys h out = omega arith
      none_from a (suc n) k [] h out = absurd h
      none_from a (suc n) zero (x ∷ ys) h out = let never = out (omega arith) in absurd cc
      none_from a (suc n) (suc k) (x ∷ ys) h out =
          let rest = none_from (a + 1) n k ys h.1 (λ low. out (omega (arith, low))) in
          omega (arith, rest)

-- one is replaced
module _ {B : Type 0} (R S : PeerNo → B → Type 0) (j : ℕ) (others : (m : ℕ) (y : B) → nat_eq j m ≡ false → R (peer_no m) y → S (peer_no m) y) where
  beyond : (a n : ℕ) → j < a → (ys : List B) → AllZip R (map peer_no (range_with_len a n)) ys → AllZip S (map peer_no (range_with_len a n)) ys
  beyond a zero past [] h = tt
  beyond a zero past (y ∷ ys) h = absurd h
  beyond a (suc n) past [] h = absurd h
  beyond a (suc n) past (y ∷ ys) h = (others a y (apart j a past) h.0, beyond (a + 1) n (omega (arith, past)) ys h.1)

  put_from : (a n k : ℕ) → a + k ≡ j → (ys : List B) → AllZip R (map peer_no (range_with_len a n)) ys → (new : B) → S (peer_no j) new → AllZip S (map peer_no (range_with_len a n)) (slice_set ys k new)
  put_from a zero zero is [] h new s = tt
  put_from a zero (suc k) is [] h new s = tt
  put_from a zero k is (y ∷ ys) h new s = absurd h
  put_from a (suc n) k is [] h new s = absurd h
  put_from a (suc n) zero is (y ∷ ys) h new s =
      (subst (λ (i : ℕ). S (peer_no i) new) (omega (arith, is)) s, beyond (a + 1) n (omega (arith, is)) ys h.1)
  put_from a (suc n) (suc k) is (y ∷ ys) h new s =
      (others a y (above j a (omega (arith, is))) h.0, put_from (a + 1) n k (omega (arith, is)) ys h.1 new s)

  pub put_at : (n : ℕ) (ys : List B) → AllZip R (map peer_no (range_with_len 0 n)) ys → (new : B) → S (peer_no j) new → AllZip S (map peer_no (range_with_len 0 n)) (slice_set ys j new)
  put_at n ys h new s = put_from 0 n j (zero-add j) ys h new s

  -- none is, since no peer has the number
  pub kept_all : (a n : ℕ) → a + n ≤ j → (ys : List B) → AllZip R (map peer_no (range_with_len a n)) ys → AllZip S (map peer_no (range_with_len a n)) ys
  kept_all a zero past [] h = tt
  kept_all a zero past (y ∷ ys) h = absurd h
  kept_all a (suc n) past [] h = absurd h
  kept_all a (suc n) past (y ∷ ys) h = (others a y (above j a (omega (arith, past))) h.0, kept_all (a + 1) n (omega (arith, past)) ys h.1)
