-- Lists, place by place.
use Rattle.std.proofs.Common.{◌≡◌, ◌<◌, ℕ, suc, List, [], ◌∷◌, ◌++◌, length, map, drop, refl, ap, ap₂, arith}
use Rattle.std.specs.Prelude.{slice_get}
use Rattle.std.specs.List.{AllByRecursion, AllZip}
use Rattle.std.proofs.lemmas.Option.{same_Some}

-- the last of some elements
pub last_of : {A : Type 0} (x : A) (xs : List A) → (front : List A) × (last : A) × (x ∷ xs ≡ front ++ last ∷ [])
last_of x [] = ([], x, refl)
last_of {A} x (y ∷ ys) =
    let (front, last, is) = last_of y ys in
    (x ∷ front, last, ap (λ (zs : List A). x ∷ zs) is)

-- lists that agree at all places are one
pub same_places : {A : Type 0} (xs ys : List A) → length xs ≡ length ys → ((k : ℕ) → k < length xs → slice_get xs k ≡ slice_get ys k) → xs ≡ ys
same_places [] [] long same = refl
same_places [] (y ∷ ys) long same = absurd (omega (arith, long))
same_places (x ∷ xs) [] long same = absurd (omega (arith, long))
same_places {A} (x ∷ xs) (y ∷ ys) long same =
    ap₂ (λ (z : A) (zs : List A). z ∷ zs) (same_Some x y (same 0 (omega arith))) (same_places xs ys (omega (arith, long)) (λ k below. same (suc k) (omega (arith, below))))

-- lists of pairs with the same firsts and the same seconds are one
pub same_pairs : {A B : Type 0} (xs ys : List (A × B)) → map (λ x. x.0) xs ≡ map (λ x. x.0) ys → map (λ x. x.1) xs ≡ map (λ x. x.1) ys → xs ≡ ys
same_pairs [] [] firsts seconds = refl
same_pairs [] (y ∷ ys) firsts seconds = absurd cc
same_pairs (x ∷ xs) [] firsts seconds = absurd cc
same_pairs {A} {B} (x ∷ xs) (y ∷ ys) firsts seconds =
    let one : x.0 ≡ y.0 = cc in
    let two : x.1 ≡ y.1 = cc in
    let pair : x ≡ y = ap₂ (λ (a : A) (b : B). (a, b)) one two in
    let rest : xs ≡ ys = same_pairs xs ys (ap (drop 1) firsts) (ap (drop 1) seconds) in
    ap₂ (λ (z : A × B) (zs : List (A × B)). z ∷ zs) pair rest

-- where each element fixes what belongs to it, all of them fix the list of that
pub zipped_alone : {A B : Type 0} (P : A → Type 0) (R T : A → B → Type 0) → ((a : A) (x y : B) → P a → R a x → T a y → x ≡ y) → (each : List A) (xs ys : List B) → AllByRecursion P each → AllZip R each xs → AllZip T each ys → xs ≡ ys
zipped_alone P R T one [] [] [] all h k = refl
zipped_alone P R T one [] [] (y ∷ ys) all h k = absurd k
zipped_alone P R T one [] (x ∷ xs) ys all h k = absurd h
zipped_alone P R T one (a ∷ each) [] ys all h k = absurd h
zipped_alone P R T one (a ∷ each) (x ∷ xs) [] all h k = absurd k
zipped_alone {A} {B} P R T one (a ∷ each) (x ∷ xs) (y ∷ ys) all h k =
    ap₂ (λ (z : B) (zs : List B). z ∷ zs) (one a x y all.0 h.0 k.0) (zipped_alone P R T one each xs ys all.1 h.1 k.1)

-- what follows for each pair of two lists
pub zipped_weaker : {A B : Type 0} (R T : A → B → Type 0) → ((a : A) (b : B) → R a b → T a b) → (xs : List A) (ys : List B) → AllZip R xs ys → AllZip T xs ys
zipped_weaker R T weaker [] [] h = tt
zipped_weaker R T weaker [] (y ∷ ys) h = absurd h
zipped_weaker R T weaker (x ∷ xs) [] h = absurd h
zipped_weaker R T weaker (x ∷ xs) (y ∷ ys) h = (weaker x y h.0, zipped_weaker R T weaker xs ys h.1)
