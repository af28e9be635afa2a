-- Lists with one element written anew.
use Rattle.std.proofs.Common.{ℕ, zero, suc, ◌+◌, ◌<◌, List, [], ◌∷◌, ◌++◌, length, take, get_or, set, sym, subst}
use Rattle.std.specs.List.{AllByRecursion, AllZip}
use Rattle.std.proofs.lemmas.List.{take_more_set}

pub all_set : {A : Type 0} (P : A → Type 0) (xs : List A) (i : ℕ) (y : A) → AllByRecursion P xs → P y → AllByRecursion P (set xs i y)
all_set P [] i y all here = tt
all_set P (x ∷ xs) zero y all here = (here, all.1)
all_set P (x ∷ xs) (suc i) y all here = (all.0, all_set P xs i y all.1 here)

pub all_zip_set : {A B : Type 0} (R : A → B → Type 0) (xs : List A) (ys : List B) (i : ℕ) (y d : B) → AllZip R xs ys → ((x : A) → R x (get_or ys i d) → R x y) → AllZip R xs (set ys i y)
all_zip_set R [] [] i y d all here = tt
all_zip_set R [] (z ∷ zs) i y d all here = absurd all
all_zip_set R (x ∷ xs) [] i y d all here = absurd all
all_zip_set R (x ∷ xs) (z ∷ zs) zero y d all here = (here x all.0, all.1)
all_zip_set R (x ∷ xs) (z ∷ zs) (suc i) y d all here = (all.0, all_zip_set R xs zs i y d all.1 here)

pub all_push : {A : Type 0} (P : A → Type 0) (xs : List A) (x : A) → AllByRecursion P xs → P x → AllByRecursion P (xs ++ x ∷ [])
all_push P [] x all here = (here, tt)
all_push P (y ∷ xs) x all here = (all.0, all_push P xs x all.1 here)

-- all of the front, and then the element that is written after it
pub all_of_front : {A : Type 0} (P : A → Type 0) (xs : List A) (i : ℕ) (y : A) → i < length xs → AllByRecursion P (take i xs) → P y → AllByRecursion P (take (i + 1) (set xs i y))
all_of_front P xs i y short all here = subst (AllByRecursion P) (sym (take_more_set xs i y short)) (all_push P (take i xs) y all here)

pub all_zip_same : {A : Type 0} (R : A → A → Type 0) → ((x : A) → R x x) → (xs : List A) → AllZip R xs xs
all_zip_same R same [] = tt
all_zip_same R same (x ∷ xs) = (same x, all_zip_same R same xs)
