-- Optional values and filtered lists.
use Rattle.std.proofs.Common.{◌≡◌, Bool, true, false, cond, List, [], ◌∷◌, Option, None, Some, option_map, is_some, if◌then◌else◌, refl, sym, ap, ap₂, ◌∙◌}
use Rattle.std.specs.Prelude.{◌&&◌, filter}
use Rattle.std.specs.Option.{option_or}

pub map_map : {A B C : Type 0} (f : B → C) (g : A → B) (o : Option A) → option_map f (option_map g o) ≡ option_map (λ x. f (g x)) o
map_map f g None = refl
map_map f g (Some x) = refl

pub map_or : {A B : Type 0} (f : A → B) (x y : Option A) → option_map f (option_or x y) ≡ option_or (option_map f x) (option_map f y)
map_or f None y = refl
map_or f (Some x) y = refl

pub map_if : {A B : Type 0} (f : A → B) (b : Bool) (x : A) (o : Option A) → option_map f (if b then Some x else o) ≡ (if b then Some (f x) else option_map f o)
map_if f true x o = refl
map_if f false x o = refl

pub some_map : {A B : Type 0} (f : A → B) (o : Option A) → is_some (option_map f o) ≡ is_some o
some_map f None = refl
some_map f (Some x) = refl

pub filter_alike : {A : Type 0} (p q : A → Bool) → ((x : A) → p x ≡ q x) → (xs : List A) → filter p xs ≡ filter q xs
filter_alike p q same [] = refl
filter_alike {A} p q same (x ∷ xs) = ap₂ (λ (b : Bool) (rest : List A). cond b (x ∷ rest) rest) (same x) (filter_alike p q same xs)

pub filter_both : {A : Type 0} (p q : A → Bool) (xs : List A) → filter p (filter q xs) ≡ filter (λ x. q x && p x) xs
filter_both p q [] = refl
filter_both {A} p q (x ∷ xs) = by (q x) (filter_both p q xs)
  where
    by : (b : Bool) → filter p (filter q xs) ≡ filter (λ x. q x && p x) xs
        → filter p (cond b (x ∷ filter q xs) (filter q xs)) ≡ cond (b && p x) (x ∷ filter (λ x. q x && p x) xs) (filter (λ x. q x && p x) xs)
    by true rest = ap (λ (ys : List A). cond (p x) (x ∷ ys) ys) rest
    by false rest = rest

-- two filters one after the other are any others that keep the same
pub filter_twice : {A : Type 0} (p q p' q' : A → Bool) → ((x : A) → (q x && p x) ≡ (q' x && p' x)) → (xs : List A) → filter p (filter q xs) ≡ filter p' (filter q' xs)
filter_twice p q p' q' same xs = filter_both p q xs ∙ filter_alike (λ x. q x && p x) (λ x. q' x && p' x) same xs ∙ sym (filter_both p' q' xs)

pub filter_none : {A : Type 0} (p : A → Bool) → ((x : A) → p x ≡ false) → (xs : List A) → filter p xs ≡ []
filter_none p never [] = refl
filter_none {A} p never (x ∷ xs) = ap (λ (b : Bool). cond b (x ∷ filter p xs) (filter p xs)) (never x) ∙ filter_none p never xs

pub filter_all : {A : Type 0} (p : A → Bool) → ((x : A) → p x ≡ true) → (xs : List A) → filter p xs ≡ xs
filter_all p always [] = refl
filter_all {A} p always (x ∷ xs) = ap₂ (λ (b : Bool) (rest : List A). cond b (x ∷ rest) (filter p xs)) (always x) (filter_all p always xs)
