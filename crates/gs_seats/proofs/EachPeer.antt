-- All peers, one after the other.
use Rattle.std.proofs.Common.{◌≡◌, ℕ, suc, ◌+◌, List, [], ◌∷◌, ◌++◌, map, ap, ◌∙◌, arith, zero, zero-add}
use Rattle.std.proofs.lemmas.List.{map-append}
use Rattle.std.specs.List.{AllZip, range_with_len}
use Rattle.gs_seats.specs.Rounds.{peer_no}

-- one more pair of a relation
pub zip_more : {A B : Type 0} (R : A → B → Type 0) (xs : List A) (ys : List B) (x : A) (y : B) → AllZip R xs ys → R x y → AllZip R (xs ++ x ∷ []) (ys ++ y ∷ [])
zip_more R [] [] x y h last = (last, tt)
zip_more R (a ∷ xs) (b ∷ ys) x y h last = (h.0, zip_more R xs ys x y h.1 last)
zip_more R [] (b ∷ ys) x y h last = absurd h
zip_more R (a ∷ xs) [] x y h last = absurd h

-- one more number
pub range_more : (a n : ℕ) → range_with_len a (suc n) ≡ range_with_len a n ++ (a + n) ∷ []
range_more a zero = ap (λ (k : ℕ). k ∷ []) (omega arith)
range_more a (suc n) = ap (λ (ks : List ℕ). a ∷ ks) (range_more (a + 1) n ∙ ap (λ (k : ℕ). range_with_len (a + 1) n ++ k ∷ []) (omega arith))

pub numbers_more : (n : ℕ) → map peer_no (range_with_len 0 (n + 1)) ≡ map peer_no (range_with_len 0 n) ++ peer_no n ∷ []
numbers_more n =
    let next : n + 1 ≡ suc n = omega arith in
    ap (λ (k : ℕ). map peer_no (range_with_len 0 k)) next ∙ ap (map peer_no) (range_more 0 n) ∙ map-append peer_no (range_with_len 0 n) ((0 + n) ∷ []) ∙ ap (λ (k : ℕ). map peer_no (range_with_len 0 n) ++ peer_no k ∷ []) (zero-add n)
