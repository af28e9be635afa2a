-- Where the first element that passes a test stands, after there is an element more.
use Rattle.std.proofs.Common.{◌≡◌, ◌++◌, ◌∙◌, ℕ, suc, ◌+◌, Bool, true, false, not, cond, nat_lt, List, [], ◌∷◌, Option, Some, None, length, refl, sym, ap, true≢false, arith}
use Rattle.std.proofs.lemmas.Bool.Decides.{nat_tests}
use Rattle.std.specs.Prelude.{◌||◌, option_map, is_some, position, IsSome}
use Rattle.std.specs.List.{list_any, position_or_len}
use Rattle.std.specs.Cmp.{IsEquivalence}

or_last : Option ℕ → Bool → ℕ → Option ℕ
or_last None here n = cond here (Some n) None
or_last (Some i) here n = Some i

step : (b : Bool) (k n : ℕ) → cond (nat_lt (cond (not b) (1 + k) 0) (suc n)) (Some (cond (not b) (1 + k) 0)) None
    ≡ cond b (Some 0) (option_map suc (cond (nat_lt k n) (Some k) None))
step true k n = let less : nat_lt 0 (suc n) ≡ true = grind (arith, nat_tests) in rw less refl
step false k n = let less : nat_lt (1 + k) (suc n) ≡ nat_lt k n = grind (arith, nat_tests) in let one : 1 + k ≡ suc k = omega arith in rw (less, one) (by (nat_lt k n))
  where
    by : (less : Bool) → cond less (Some (suc k)) None ≡ option_map suc (cond less (Some k) None)
    by true = refl
    by false = refl

position_cons : {X : Type 0} (p : X → Bool) (x : X) (xs : List X)
    → position p (x ∷ xs) ≡ cond (p x) (Some 0) (option_map suc (position p xs))
position_cons p x xs = step (p x) (position_or_len p xs) (length xs)

shift : (b : Bool) (o : Option ℕ) (here : Bool) (n : ℕ)
    → cond b (Some 0) (option_map suc (or_last o here n)) ≡ or_last (cond b (Some 0) (option_map suc o)) here (suc n)
unfolding or_last
shift true o here n = refl
shift false (Some i) here n = refl
shift false None true n = refl
shift false None false n = refl

position_snoc : {X : Type 0} (p : X → Bool) (xs : List X) (x : X)
    → position p (xs ++ x ∷ []) ≡ or_last (position p xs) (p x) (length xs)
unfolding or_last
position_snoc p [] x = position_cons p x []
position_snoc p (y ∷ ys) x =
    position_cons p y (ys ++ x ∷ [])
    ∙ ap (λ (o : Option ℕ). cond (p y) (Some 0) (option_map suc o)) (position_snoc p ys x)
    ∙ shift (p y) (position p ys) (p x) (length ys)
    ∙ sym (ap (λ (o : Option ℕ). or_last o (p x) (suc (length ys))) (position_cons p y ys))

pub position_alike : {X : Type 0} (p q : X → Bool) → ((x : X) → p x ≡ q x) → (xs : List X) → position p xs ≡ position q xs
position_alike p q alike [] = refl
position_alike p q alike (x ∷ xs) =
    position_cons p x xs
    ∙ ap (λ (b : Bool). cond b (Some 0) (option_map suc (position p xs))) (alike x)
    ∙ ap (λ (o : Option ℕ). cond (q x) (Some 0) (option_map suc o)) (position_alike p q alike xs)
    ∙ sym (position_cons q x xs)

not_last : (o : Option ℕ) (n : ℕ) → or_last o false n ≡ o
unfolding or_last
not_last None n = refl
not_last (Some i) n = refl

some_first : (o : Option ℕ) (here : Bool) (n : ℕ) → IsSome o → o ≡ or_last o here n
unfolding or_last
some_first None here n is = absurd (true≢false (sym is))
some_first (Some i) here n is = refl

-- the key of the last element was there before
pub still_placed : {K T : Type 0} (eq : K → K → Bool) (key_of : T → K) (at : K → Option ℕ) (xs : List T) (x : T) (key : K)
    → IsEquivalence eq
    → ((k : K) → at k ≡ position (λ y. eq k (key_of y)) xs)
    → key ≡ key_of x
    → IsSome (at key)
    → (k : K) → at k ≡ position (λ y. eq k (key_of y)) (xs ++ x ∷ [])
unfolding or_last
still_placed eq key_of at xs x key laws before is_key found k =
    before k ∙ by (eq k (key_of x)) refl ∙ sym (position_snoc (λ y. eq k (key_of y)) xs x)
  where
    by : (same : Bool) → eq k (key_of x) ≡ same
        → position (λ y. eq k (key_of y)) xs ≡ or_last (position (λ y. eq k (key_of y)) xs) same (length xs)
    by false is = sym (not_last (position (λ y. eq k (key_of y)) xs) (length xs))
    by true is =
        let here : position (λ y. eq k (key_of y)) xs ≡ at key =
        position_alike (λ y. eq k (key_of y)) (λ y. eq (key_of x) (key_of y)) (λ y. laws.congr k (key_of x) (key_of y) is) xs
        ∙ sym (before (key_of x)) ∙ ap at (sym is_key) in
        here ∙ some_first (at key) true (length xs) found ∙ sym (ap (λ (o : Option ℕ). or_last o true (length xs)) here)

-- the key of the last element is new
pub newly_placed : {K T : Type 0} (eq : K → K → Bool) (key_of : T → K) (at then : K → Option ℕ) (xs : List T) (x : T) (key : K)
    → IsEquivalence eq
    → ((k : K) → at k ≡ position (λ y. eq k (key_of y)) xs)
    → key ≡ key_of x
    → at key ≡ None
    → ((k : K) → then k ≡ cond (eq key k) (Some (length xs)) (at k))
    → (k : K) → then k ≡ position (λ y. eq k (key_of y)) (xs ++ x ∷ [])
unfolding or_last
newly_placed {K = K} eq key_of at then xs x key laws before is_key new after k =
    after k ∙ ap (λ (q : K). cond (eq q k) (Some (length xs)) (at k)) is_key ∙ ap (λ (o : Option ℕ). cond (eq (key_of x) k) (Some (length xs)) o) (before k)
    ∙ ap (λ (b : Bool). cond b (Some (length xs)) (position (λ y. eq k (key_of y)) xs)) (laws.symm (key_of x) k)
    ∙ by (eq k (key_of x)) refl ∙ sym (position_snoc (λ y. eq k (key_of y)) xs x)
  where
    by : (same : Bool) → eq k (key_of x) ≡ same
        → cond same (Some (length xs)) (position (λ y. eq k (key_of y)) xs) ≡ or_last (position (λ y. eq k (key_of y)) xs) same (length xs)
    by false is = sym (not_last (position (λ y. eq k (key_of y)) xs) (length xs))
    by true is =
        let none : position (λ y. eq k (key_of y)) xs ≡ None =
        position_alike (λ y. eq k (key_of y)) (λ y. eq (key_of x) (key_of y)) (λ y. laws.congr k (key_of x) (key_of y) is) xs
        ∙ sym (before (key_of x)) ∙ ap at (sym is_key) ∙ new in
        sym (ap (λ (o : Option ℕ). or_last o true (length xs)) none)

pub some_shifted : {A B : Type 0} (f : A → B) (o : Option A) → is_some (option_map f o) ≡ is_some o
some_shifted f None = refl
some_shifted f (Some i) = refl

-- an element passes a test where one has a place
pub any_placed : {X : Type 0} (p : X → Bool) (xs : List X) → list_any p xs ≡ is_some (position p xs)
any_placed p [] = refl
any_placed p (x ∷ xs) = by (p x) (any_placed p xs) ∙ ap is_some (sym (position_cons p x xs))
  where
    by : (here : Bool) → list_any p xs ≡ is_some (position p xs)
        → (here || list_any p xs) ≡ is_some (cond here (Some 0) (option_map suc (position p xs)))
    by true rest = refl
    by false rest = rest ∙ sym (some_shifted suc (position p xs))

pub any_alike : {X : Type 0} (p q : X → Bool) → ((x : X) → p x ≡ q x) → (xs : List X) → list_any p xs ≡ list_any q xs
any_alike p q alike [] = refl
any_alike p q alike (x ∷ xs) =
    ap (λ (b : Bool). b || list_any p xs) (alike x) ∙ ap (λ (b : Bool). q x || b) (any_alike p q alike xs)
