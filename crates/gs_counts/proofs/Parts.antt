-- The rows of a table make up the whole, where each happening stands in one at most.
use Rattle.std.proofs.Common.{◌≡◌, ◌≤◌, ℕ, ◌+◌, ◌*◌, not, Bool, true, false, if◌then◌else◌, List, [], ◌∷◌, filter, refl, sym, ap, ap₂, ◌∙◌, arith}
use Rattle.std.specs.Prelude.{◌||◌}
use Rattle.std.specs.List.{list_any, sum_by}
use Rattle.std.proofs.lemmas.List.Sums.{sum_by-cons}
use Rattle.gs_counts.specs.declared.happening.Happening.{Happening}
use Rattle.gs_counts.specs.declared.kind.Kind.{Kind}
use Rattle.gs_counts.specs.Kinds.{same_kind}
use Rattle.gs_counts.specs.Rows.{amount_in, amount_of}
use Rattle.gs_counts.specs.Sums.{MakeUp, in_none}

abbrev pub one_if : Bool → ℕ
one_if true = 1
one_if false = 0

commute : {X : Type 0} (f g : X → Bool) (xs : List X) → filter f (filter g xs) ≡ filter g (filter f xs)
commute f g [] = refl
commute f g (x ∷ xs) = by (f x) refl (g x) refl (commute f g xs)
  where
    by : (a : Bool) → f x ≡ a → (b : Bool) → g x ≡ b → filter f (filter g xs) ≡ filter g (filter f xs) → filter f (if b then x ∷ filter g xs else filter g xs) ≡ filter g (if a then x ∷ filter f xs else filter f xs)
    by true is true at rest = ap (λ (c : Bool). if c then x ∷ filter f (filter g xs) else filter f (filter g xs)) is ∙ ap (λ zs. x ∷ zs) rest ∙ sym (ap (λ (c : Bool). if c then x ∷ filter g (filter f xs) else filter g (filter f xs)) at)
    by true is false at rest = rest ∙ sym (ap (λ (c : Bool). if c then x ∷ filter g (filter f xs) else filter g (filter f xs)) at)
    by false is true at rest = ap (λ (c : Bool). if c then x ∷ filter f (filter g xs) else filter f (filter g xs)) is ∙ rest
    by false is false at rest = rest

module _ {K : Type 0} (stands : K → Happening → Bool) where
  -- in how many of these rows it stands
  abbrev pub times : Happening → List K → ℕ
  times h ks = sum_by (λ k. one_if (stands k h)) ks

  abbrev rows : List Happening → List K → ℕ
  rows hs ks = sum_by (λ k. amount_of (filter (stands k) hs)) ks

  amount_if : (f : Happening → Bool) (h : Happening) (hs : List Happening) → amount_of (filter f (h ∷ hs)) ≡ h.amount * one_if (f h) + amount_of (filter f hs)
  amount_if f h hs = by (f h)
    where
      by : (b : Bool) → amount_of (if b then h ∷ filter f hs else filter f hs) ≡ h.amount * one_if b + amount_of (filter f hs)
      by true = sum_by-cons (λ (x : Happening). x.amount) h (filter f hs) ∙ ap (λ (n : ℕ). n + amount_of (filter f hs)) (once h.amount)
        where
          once : (n : ℕ) → n ≡ n * 1
          once n = omega arith
      by false = never h.amount (amount_of (filter f hs))
        where
          never : (n m : ℕ) → m ≡ n * 0 + m
          never n m = omega arith

  rows_more : (h : Happening) (hs : List Happening) (ks : List K) → rows (h ∷ hs) ks ≡ h.amount * times h ks + rows hs ks
  rows_more h hs [] = nothing h.amount
    where
      nothing : (n : ℕ) → 0 ≡ n * 0 + 0
      nothing n = omega arith
  rows_more h hs (k ∷ ks) =
      sum_by-cons (λ (j : K). amount_of (filter (stands j) (h ∷ hs))) k ks
      ∙ ap₂ (λ (m n : ℕ). m + n) (amount_if (stands k) h hs) (rows_more h hs ks)
      ∙ mixed h.amount (one_if (stands k h)) (amount_of (filter (stands k) hs)) (times h ks) (rows hs ks)
      ∙ sym (ap₂ (λ (m n : ℕ). h.amount * m + n) (sum_by-cons (λ (j : K). one_if (stands j h)) k ks) (sum_by-cons (λ (j : K). amount_of (filter (stands j) hs)) k ks))
    where
      spread : (a b c : ℕ) → a * (b + c) ≡ a * b + a * c
      spread a b c = grind (arith)

      mixed : (a b x c y : ℕ) → (a * b + x) + (a * c + y) ≡ a * (b + c) + (x + y)
      mixed a b x c y = turned (a * b) x (a * c) y ∙ ap (λ (n : ℕ). n + (x + y)) (sym (spread a b c))
        where
          turned : (u x v y : ℕ) → (u + x) + (v + y) ≡ (u + v) + (x + y)
          turned u x v y = omega arith

  any_times : (h : Happening) (ks : List K) → times h ks ≤ 1 → times h ks + one_if (in_none stands ks h) ≡ 1
  any_times h [] few = refl
  any_times h (k ∷ ks) few = by (stands k h) (sum_by-cons (λ (j : K). one_if (stands j h)) k ks) (any_times h ks)
    where
      by : (b : Bool) → times h (k ∷ ks) ≡ one_if b + times h ks → (times h ks ≤ 1 → times h ks + one_if (in_none stands ks h) ≡ 1) → times h (k ∷ ks) + one_if (not (b || list_any (λ j. stands j h) ks)) ≡ 1
      by true first rest = omega (arith, few, first)
      by false first rest = let others = rest (omega (arith, few, first)) in omega (arith, first, others)

  all_rows : (ks : List K) → ((h : Happening) → times h ks ≤ 1) → (hs : List Happening) → amount_of hs ≡ rows hs ks + amount_of (filter (in_none stands ks) hs)
  all_rows ks few [] = sym (zeros ks)
    where
      zeros : (js : List K) → rows [] js + 0 ≡ 0
      zeros [] = refl
      zeros (j ∷ js) = let first = sum_by-cons (λ (i : K). amount_of (filter (stands i) [])) j js in let others = zeros js in omega (arith, first, others)
  all_rows ks few (h ∷ hs) =
      sum_by-cons (λ (x : Happening). x.amount) h hs
      ∙ ap₂ (λ (m n : ℕ). m + n) (whole h.amount (times h ks) (one_if (in_none stands ks h)) (any_times h ks (few h))) (all_rows ks few hs)
      ∙ turned (h.amount * times h ks) (h.amount * one_if (in_none stands ks h)) (rows hs ks) (amount_of (filter (in_none stands ks) hs))
      ∙ sym (ap₂ (λ (m n : ℕ). m + n) (rows_more h hs ks) (amount_if (in_none stands ks) h hs))
    where
      spread : (a b c : ℕ) → a * (b + c) ≡ a * b + a * c
      spread a b c = grind (arith)

      once : (n : ℕ) → n ≡ n * 1
      once n = omega arith

      whole : (n a b : ℕ) → a + b ≡ 1 → n ≡ n * a + n * b
      whole n a b is = once n ∙ ap (λ (k : ℕ). n * k) (sym is) ∙ spread n a b

      turned : (u v x y : ℕ) → (u + v) + (x + y) ≡ (u + x) + (v + y)
      turned u v x y = omega arith

  each_commutes : (kind : Kind) (ks : List K) (hs : List Happening) → rows (filter (λ h. same_kind h.kind kind) hs) ks ≡ sum_by (λ k. amount_in (filter (stands k) hs) kind) ks
  each_commutes kind [] hs = refl
  each_commutes kind (k ∷ ks) hs =
      sum_by-cons (λ (j : K). amount_of (filter (stands j) (filter (λ h. same_kind h.kind kind) hs))) k ks
      ∙ ap₂ (λ (xs : List Happening) (n : ℕ). amount_of xs + n) (commute (stands k) (λ h. same_kind h.kind kind) hs) (each_commutes kind ks hs)
      ∙ sym (sum_by-cons (λ (j : K). amount_in (filter (stands j) hs) kind) k ks)

  pub make_up : (ks : List K) → ((h : Happening) → times h ks ≤ 1) → (hs : List Happening) → MakeUp stands ks hs
  make_up ks few hs = λ kind.
      all_rows ks few (filter (λ h. same_kind h.kind kind) hs)
      ∙ ap₂ (λ (m : ℕ) (xs : List Happening). m + amount_of xs) (each_commutes kind ks hs) (commute (in_none stands ks) (λ h. same_kind h.kind kind) hs)
