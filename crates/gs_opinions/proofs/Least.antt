-- The lowest of a list, element after element.
use Rattle.std.proofs.Common.{◌≡◌, ◌||◌, ℤ, Bool, true, false, if◌then◌else◌, List, [], ◌∷◌, ◌++◌, Option, None, Some, refl, sym, ap, subst, ◌∙◌, append_assoc, append-nil, arith}
use Rattle.std.specs.Prelude.{int_lt, find, fold, not}
use Rattle.std.specs.List.{AllByRecursion, list_any}
use Rattle.std.proofs.lemmas.Int.{ints}
use Rattle.gs_opinions.specs.Lowest.{is_lowest, lowest}
use Rattle.gs_opinions.specs.Noting.{lower}

-- ---- orders

under_first : (a b c : ℤ) → int_lt a b ≡ true → int_lt b c ≡ true → int_lt a c ≡ true
under_first a b c p q = grind (arith, ints)

under_above : (a b c : ℤ) → int_lt a b ≡ true → int_lt c b ≡ false → int_lt a c ≡ true
under_above a b c p q = grind (arith, ints)

not_over : (a b : ℤ) → int_lt a b ≡ true → int_lt b a ≡ false
not_over a b p = grind (arith, ints)

not_itself : (a : ℤ) → int_lt a a ≡ false
not_itself a = grind (arith, ints)

-- ---- all of a list

pub weaker : {A : Type 0} (P Q : A → Type 0) → ((x : A) → P x → Q x) → (xs : List A) → AllByRecursion P xs → AllByRecursion Q xs
weaker P Q so [] all = tt
weaker P Q so (x ∷ xs) all = (so x all.0, weaker P Q so xs all.1)

pub both : {A : Type 0} (P : A → Type 0) (xs ys : List A) → AllByRecursion P xs → AllByRecursion P ys → AllByRecursion P (xs ++ ys)
both P [] ys p q = q
both P (x ∷ xs) ys p q = (p.0, both P xs ys p.1 q)

none_of : {A : Type 0} (test : A → Bool) (xs : List A) → AllByRecursion (λ x. test x ≡ false) xs → list_any test xs ≡ false
none_of test [] all = refl
none_of test (x ∷ xs) all = rw (all.0, none_of test xs all.1) refl

found_in : {A : Type 0} (test : A → Bool) (xs ys : List A) (x : A) → test x ≡ true → list_any test (xs ++ x ∷ ys) ≡ true
found_in test [] ys x is = rw is refl
found_in test (y ∷ xs) ys x is = rw (found_in test xs ys x is) (or_true (test y))
  where
    or_true : (b : Bool) → (b || true) ≡ true
    or_true true = refl
    or_true false = refl

-- the first that passes a test
first_found : {A : Type 0} (test : A → Bool) (xs ys : List A) (x : A) → AllByRecursion (λ y. test y ≡ false) xs → test x ≡ true → find test (xs ++ x ∷ ys) ≡ Some x
first_found test [] ys x none is = rw is refl
first_found test (y ∷ xs) ys x none is = rw none.0 (first_found test xs ys x none.1 is)

-- ---- the first that no other is below

-- It stands after elements above it, and before elements that are not below it.
pub record IsFirstLowest {A : Type 0} (amount : A → ℤ) (xs : List A) (x : A) : Type 0 where
  pub front : List A
  pub back : List A
  pub is : xs ≡ front ++ x ∷ back
  pub above : AllByRecursion (λ y. int_lt (amount x) (amount y) ≡ true) front
  pub not_below : AllByRecursion (λ y. int_lt (amount y) (amount x) ≡ false) back

first_is_lowest : {A : Type 0} (amount : A → ℤ) (xs : List A) (x : A) → IsFirstLowest amount xs x → lowest amount xs ≡ Some x
first_is_lowest {A = A} amount xs x h =
    let all = h.front ++ x ∷ h.back in
    let below_x = λ (y : A). int_lt (amount y) (amount x) in
    let none : AllByRecursion (λ y. below_x y ≡ false) all =
    both (λ y. below_x y ≡ false) h.front (x ∷ h.back)
    (weaker (λ y. int_lt (amount x) (amount y) ≡ true) (λ y. below_x y ≡ false) (λ y p. not_over (amount x) (amount y) p) h.front h.above)
    (not_itself (amount x), h.not_below) in
    let passes : is_lowest amount all x ≡ true = ap not (none_of below_x all none) in
    let fails : AllByRecursion (λ y. is_lowest amount all y ≡ false) h.front =
    weaker (λ y. int_lt (amount x) (amount y) ≡ true) (λ y. is_lowest amount all y ≡ false)
    (λ y p. ap not (found_in (λ z. int_lt (amount z) (amount y)) h.front h.back x p)) h.front h.above in
    ap (λ (ys : List A). find (is_lowest amount ys) ys) h.is ∙ first_found (is_lowest amount all) h.front h.back x fails passes

-- ---- one element after the other

-- what was found of a list
abbrev pub Found : {A : Type 0} (amount : A → ℤ) (xs : List A) → Option A → Type 0
Found amount xs None = xs ≡ []
Found amount xs (Some x) = IsFirstLowest amount xs x

one_more : {A : Type 0} (amount : A → ℤ) (xs : List A) (found : Option A) (y : A) → Found amount xs found → Found amount (xs ++ y ∷ []) (lower amount found y)
one_more amount xs None y h = record { front = []; back = []; is = ap (λ l. l ++ y ∷ []) h; above = tt; not_below = tt }
one_more {A = A} amount xs (Some x) y h = by (int_lt (amount y) (amount x)) refl
  where
    by : (b : Bool) → int_lt (amount y) (amount x) ≡ b → Found amount (xs ++ y ∷ []) (if b then Some y else Some x)
    by true is = record {
      front = xs;
      back = [];
      is = refl;
      above = subst (AllByRecursion (λ z. int_lt (amount y) (amount z) ≡ true)) (sym h.is)
          (both (λ z. int_lt (amount y) (amount z) ≡ true) h.front (x ∷ h.back)
          (weaker (λ z. int_lt (amount x) (amount z) ≡ true) (λ z. int_lt (amount y) (amount z) ≡ true) (λ z p. under_first (amount y) (amount x) (amount z) is p) h.front h.above)
          (is, weaker (λ z. int_lt (amount z) (amount x) ≡ false) (λ z. int_lt (amount y) (amount z) ≡ true) (λ z p. under_above (amount y) (amount x) (amount z) is p) h.back h.not_below));
      not_below = tt;
    }
    by false is = record {
      front = h.front;
      back = h.back ++ y ∷ [];
      is = ap (λ l. l ++ y ∷ []) h.is ∙ append_assoc h.front (x ∷ h.back) (y ∷ []);
      above = h.above;
      not_below = both (λ z. int_lt (amount z) (amount x) ≡ false) h.back (y ∷ []) h.not_below (is, tt);
    }

-- all of a list, one after the other
abbrev lower_of_all : {A : Type 0} → (A → ℤ) → Option A → List A → Option A
lower_of_all amount found xs = fold (lower amount) found xs

all_found : {A : Type 0} (amount : A → ℤ) (xs ys : List A) (found : Option A) → Found amount xs found → Found amount (xs ++ ys) (lower_of_all amount found ys)
all_found amount xs [] found h = subst (λ l. Found amount l found) (sym (append-nil xs)) h
all_found {A = A} amount xs (y ∷ ys) found h =
    subst (λ (l : List A). Found amount l (lower_of_all amount (lower amount found y) ys)) (append_assoc xs (y ∷ []) ys)
    (all_found amount (xs ++ y ∷ []) ys (lower amount found y) (one_more amount xs found y h))

found_is : {A : Type 0} (amount : A → ℤ) (xs : List A) (found : Option A) → Found amount xs found → found ≡ lowest amount xs
found_is {A = A} amount xs None h = ap (λ (ys : List A). lowest amount ys) (sym h)
found_is amount xs (Some x) h = sym (first_is_lowest amount xs x h)

pub lowest_is : {A : Type 0} (amount : A → ℤ) (xs : List A) → lower_of_all amount None xs ≡ lowest amount xs
lowest_is amount xs = found_is amount xs (lower_of_all amount None xs) (all_found amount [] xs None refl)

pub lowest_more : {A : Type 0} (amount : A → ℤ) (xs : List A) (y : A) → lower amount (lowest amount xs) y ≡ lowest amount (xs ++ y ∷ [])
lowest_more {A = A} amount xs y =
    let before = subst (Found amount xs) (lowest_is amount xs) (all_found amount [] xs None refl) in
    found_is amount (xs ++ y ∷ []) (lower amount (lowest amount xs) y) (one_more amount xs (lowest amount xs) y before)

-- ---- what holds of it

pub found_lowest : {A : Type 0} (amount : A → ℤ) (xs : List A) → Found amount xs (lowest amount xs)
found_lowest amount xs = subst (Found amount xs) (lowest_is amount xs) (all_found amount [] xs None refl)

-- no element is below it
pub not_below_found : {A : Type 0} (amount : A → ℤ) (xs : List A) (x : A) → IsFirstLowest amount xs x → AllByRecursion (λ y. int_lt (amount y) (amount x) ≡ false) xs
not_below_found amount xs x h =
    subst (AllByRecursion (λ y. int_lt (amount y) (amount x) ≡ false)) (sym h.is)
    (both (λ y. int_lt (amount y) (amount x) ≡ false) h.front (x ∷ h.back)
    (weaker (λ y. int_lt (amount x) (amount y) ≡ true) (λ y. int_lt (amount y) (amount x) ≡ false) (λ y p. not_over (amount x) (amount y) p) h.front h.above)
    (not_itself (amount x), h.not_below))
