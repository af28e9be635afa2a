-- Lists side by side, where one is changed element after element.
use Rattle.std.proofs.Common.{◌≡◌, ◌+◌, ◌<◌, ℕ, List, [], ◌∷◌, ◌++◌, length, take, drop, get_or, set, sym, ap, subst, ◌∙◌, append_assoc, arith}
use Rattle.std.specs.List.{AllZip}
use Rattle.std.proofs.lemmas.List.{set_at, get_or_at, length-take-le, drop_more, take_more}
use Rattle.std.proofs.lemmas.List.Elements.{length_all_zip}

-- the last of both
pub zip_push : {A B : Type 0} (R : A → B → Type 0) (xs : List A) (ys : List B) (x : A) (y : B) → AllZip R xs ys → R x y → AllZip R (xs ++ x ∷ []) (ys ++ y ∷ [])
zip_push R [] [] x y h r = (r, tt)
zip_push R [] (z ∷ ys) x y h r = absurd h
zip_push R (z ∷ xs) [] x y h r = absurd h
zip_push R (z ∷ xs) (w ∷ ys) x y h r = (h.0, zip_push R xs ys x y h.1 r)

pub zip_same : {A : Type 0} (R : A → A → Type 0) → ((x : A) → R x x) → (xs : List A) → AllZip R xs xs
zip_same R each [] = tt
zip_same R each (x ∷ xs) = (each x, zip_same R each xs)

pub zip_then : {A : Type 0} (R S T : A → A → Type 0) → ((x y z : A) → R x y → S y z → T x z) → (xs ys zs : List A) → AllZip R xs ys → AllZip S ys zs → AllZip T xs zs
zip_then R S T so [] [] [] r s = tt
zip_then R S T so (x ∷ xs) (y ∷ ys) (z ∷ zs) r s = (so x y z r.0 s.0, zip_then R S T so xs ys zs r.1 s.1)
zip_then R S T so [] [] (z ∷ zs) r s = absurd s
zip_then R S T so [] (y ∷ ys) zs r s = absurd r
zip_then R S T so (x ∷ xs) [] zs r s = absurd r
zip_then R S T so (x ∷ xs) (y ∷ ys) [] r s = absurd s

-- The first n are changed, and the others are as they were.
pub record Reached {A : Type 0} (R : A → A → Type 0) (n : ℕ) (xs ys : List A) : Type 0 where
  pub front : List A
  pub changed : AllZip R (take n xs) front
  pub rest : ys ≡ front ++ drop n xs

front_long : {A : Type 0} (R : A → A → Type 0) (n : ℕ) (xs ys : List A) → n < length xs → (h : Reached R n xs ys) → length h.front ≡ n
front_long R n xs ys low h = sym (length_all_zip R (take n xs) h.front h.changed) ∙ length-take-le n xs (omega (arith, low))

-- one that was not reached
pub reached_is : {A : Type 0} (R : A → A → Type 0) (n : ℕ) (xs ys : List A) (d : A) → n < length xs → Reached R n xs ys → get_or ys n d ≡ get_or xs n d
reached_is R n xs ys d low h =
    ap (λ zs. get_or zs n d) (h.rest ∙ ap (λ zs. h.front ++ zs) (drop_more xs n d low))
    ∙ get_or_at h.front (get_or xs n d) (drop (n + 1) xs) d n (front_long R n xs ys low h)

-- one more is
pub reached_more : {A : Type 0} (R : A → A → Type 0) (n : ℕ) (xs ys : List A) (d y : A) → n < length xs → Reached R n xs ys → R (get_or ys n d) y → Reached R (n + 1) xs (set ys n y)
reached_more R n xs ys d y low h r = record {
  front = h.front ++ y ∷ [];
  changed = subst (λ zs. AllZip R zs (h.front ++ y ∷ [])) (sym (take_more xs n d low))
      (zip_push R (take n xs) h.front (get_or xs n d) y h.changed (subst (λ x. R x y) (reached_is R n xs ys d low h) r));
  rest = ap (λ zs. set zs n y) (h.rest ∙ ap (λ zs. h.front ++ zs) (drop_more xs n d low))
      ∙ set_at h.front (get_or xs n d) (drop (n + 1) xs) y n (front_long R n xs ys low h)
      ∙ sym (append_assoc h.front (y ∷ []) (drop (n + 1) xs));
}
