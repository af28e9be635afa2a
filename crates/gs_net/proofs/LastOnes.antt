-- The last of a list, and of a list that is seen through a function.
use Rattle.std.proofs.Common.{◌≡◌, ◌≢◌, List, [], ◌∷◌, ◌++◌, map, length, refl, sym, ap, arith, length-append}
use Rattle.std.specs.List.{AllByRecursion}

abbrev tail_of : {A : Type 0} → List A → List A
tail_of [] = []
tail_of (x ∷ xs) = xs

abbrev head_or : {A : Type 0} → A → List A → A
head_or d [] = d
head_or d (x ∷ xs) = x

pub last_is_some : {A : Type 0} (xs : List A) (x : A) → xs ++ x ∷ [] ≢ []
last_is_some xs x e = let l = ap length e in absurd (omega (arith, l, length-append xs (x ∷ [])))

pub last_parts : {A : Type 0} (xs ys : List A) (x y : A) → xs ++ x ∷ [] ≡ ys ++ y ∷ [] → (xs ≡ ys) × (x ≡ y)
last_parts [] [] x y e = (refl, ap (head_or x) e)
last_parts [] (b ∷ ys) x y e = absurd (last_is_some ys y (sym (ap tail_of e)))
last_parts (a ∷ xs) [] x y e = absurd (last_is_some xs x (ap tail_of e))
last_parts (a ∷ xs) (b ∷ ys) x y e =
    let r = last_parts xs ys x y (ap tail_of e) in ((λ i. head_or a (e i) ∷ r.0 i), r.1)

pub map_last : {A B : Type 0} (f : A → B) (xs : List A) (ys : List B) (y : B) → map f xs ≡ ys ++ y ∷ [] → (front : List A) × (last : A) × (xs ≡ front ++ last ∷ []) × (map f front ≡ ys) × (f last ≡ y)
map_last f [] ys y e = absurd (last_is_some ys y (sym e))
map_last f (a ∷ []) [] y e = ([], a, refl, refl, ap (head_or (f a)) e)
map_last f (a ∷ []) (b ∷ ys) y e = absurd (last_is_some ys y (sym (ap tail_of e)))
map_last f (a ∷ c ∷ xs) [] y e = let l = ap length e in absurd (omega (arith, l))
map_last f (a ∷ c ∷ xs) (b ∷ ys) y e =
    let r = map_last f (c ∷ xs) ys y (ap tail_of e) in (a ∷ r.0, r.1, ap (λ l. a ∷ l) r.2, (λ i. head_or (f a) (e i) ∷ r.3 i), r.4)

pub all_last : {A : Type 0} (P : A → Type 0) (xs : List A) (x : A) → AllByRecursion P (xs ++ x ∷ []) → AllByRecursion P xs × P x
all_last P [] x h = (tt, h.0)
all_last P (y ∷ xs) x h = let r = all_last P xs x h.1 in ((h.0, r.0), r.1)
