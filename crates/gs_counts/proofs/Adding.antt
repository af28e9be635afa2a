-- What each happening adds to an amount.
use Rattle.std.proofs.Common.{◌≡◌, ℕ, ◌+◌, Bool, true, false, if◌then◌else◌, List, [], ◌∷◌, filter, refl, sym, ap, ap₂, ◌∙◌, arith}
use Rattle.std.specs.List.{flat_map, sum_by}
use Rattle.std.proofs.lemmas.List.Sums.{sum_by-append, sum_by-cons}
use Rattle.gs_counts.specs.declared.happening.Happening.{Happening}
use Rattle.gs_counts.specs.declared.kind.Kind.{Kind}
use Rattle.gs_counts.specs.declared.kind.Kind.TheVariants.{RpcsGraylisted, RpcsHeard, RpcsLate}
use Rattle.gs_counts.specs.Exchanges.{rpcs_that_came}
use Rattle.gs_counts.specs.Kinds.{same_kind}
use Rattle.gs_counts.specs.Rows.{amount_in, amount_of}

-- ---- numbers

pub and_nothing : (n : ℕ) → n + 0 ≡ n
and_nothing n = omega arith

pub nothing_and : (n : ℕ) → n ≡ 0 + n
nothing_and n = omega arith

pub none_if : (b : Bool) → ◌≡◌ {A = ℕ} 0 (if b then 0 else 0)
none_if true = refl
none_if false = refl

pub both_if : (b : Bool) (m n : ℕ) → (if b then m else 0) + (if b then n else 0) ≡ (if b then m + n else 0)
both_if true m n = refl
both_if false m n = refl

-- ---- sums

pub no_sum : {A : Type 0} (f : A → ℕ) (xs : List A) → ((x : A) → f x ≡ 0) → sum_by f xs ≡ 0
no_sum f [] none = refl
no_sum f (x ∷ xs) none = sum_by-cons f x xs ∙ ap₂ (λ (m n : ℕ). m + n) (none x) (no_sum f xs none)

pub same_sum : {A : Type 0} (f g : A → ℕ) (xs : List A) → ((x : A) → f x ≡ g x) → sum_by f xs ≡ sum_by g xs
same_sum f g [] same = refl
same_sum f g (x ∷ xs) same =
    sum_by-cons f x xs
    ∙ ap₂ (λ (m n : ℕ). m + n) (same x) (same_sum f g xs same)
    ∙ sym (sum_by-cons g x xs)

pub sum_of_each : {A : Type 0} (w : Happening → ℕ) (f : A → List Happening) (xs : List A) → sum_by w (flat_map f xs) ≡ sum_by (λ x. sum_by w (f x)) xs
sum_of_each w f [] = refl
sum_of_each {A} w f (x ∷ xs) =
    sum_by-append w (f x) (flat_map f xs)
    ∙ ap (λ (n : ℕ). sum_by w (f x) + n) (sum_of_each w f xs)
    ∙ sym (sum_by-cons (λ (y : A). sum_by w (f y)) x xs)

-- ---- one happening

one_more : (h : Happening) (hs : List Happening) (b : Bool) → amount_of (if b then h ∷ hs else hs) ≡ (if b then h.amount else 0) + amount_of hs
one_more h hs true = sum_by-cons (λ (x : Happening). x.amount) h hs
one_more h hs false = nothing_and (amount_of hs)

no_more : (n : ℕ) (b : Bool) → n ≡ (if b then 0 else 0) + n
no_more n true = nothing_and n
no_more n false = nothing_and n

module _ (stands : Happening → Bool) where
  -- what it adds to the amount of a kind, among those that stand there
  abbrev pub adds : Kind → Happening → ℕ
  adds kind h = if same_kind h.kind kind then (if stands h then h.amount else 0) else 0

  first_adds : (kind : Kind) (h : Happening) (hs : List Happening) → amount_in (filter stands (h ∷ hs)) kind ≡ adds kind h + amount_in (filter stands hs) kind
  first_adds kind h hs = by (stands h)
    where
      by : (b : Bool) → amount_in (if b then h ∷ filter stands hs else filter stands hs) kind ≡ (if same_kind h.kind kind then (if b then h.amount else 0) else 0) + amount_in (filter stands hs) kind
      by true = one_more h (filter (λ (x : Happening). same_kind x.kind kind) (filter stands hs)) (same_kind h.kind kind)
      by false = no_more (amount_in (filter stands hs) kind) (same_kind h.kind kind)

  pub all_add : (kind : Kind) (hs : List Happening) → amount_in (filter stands hs) kind ≡ sum_by (adds kind) hs
  all_add kind [] = refl
  all_add kind (h ∷ hs) =
      first_adds kind h hs
      ∙ ap (λ (n : ℕ). adds kind h + n) (all_add kind hs)
      ∙ sym (sum_by-cons (adds kind) h hs)

  -- what it adds to the RPCs that came
  abbrev pub comes : Happening → ℕ
  comes h = adds RpcsHeard h + adds RpcsGraylisted h + adds RpcsLate h

  three_sums : (hs : List Happening) → sum_by (adds RpcsHeard) hs + sum_by (adds RpcsGraylisted) hs + sum_by (adds RpcsLate) hs ≡ sum_by comes hs
  three_sums [] = refl
  three_sums (h ∷ hs) =
      ap₂ (λ (m n : ℕ). m + n)
      (ap₂ (λ (m n : ℕ). m + n) (sum_by-cons (adds RpcsHeard) h hs) (sum_by-cons (adds RpcsGraylisted) h hs))
      (sum_by-cons (adds RpcsLate) h hs)
      ∙ turned (adds RpcsHeard h) (adds RpcsGraylisted h) (adds RpcsLate h) (sum_by (adds RpcsHeard) hs) (sum_by (adds RpcsGraylisted) hs) (sum_by (adds RpcsLate) hs)
      ∙ ap (λ (n : ℕ). comes h + n) (three_sums hs)
      ∙ sym (sum_by-cons comes h hs)
    where
      turned : (a b c x y z : ℕ) → ((a + x) + (b + y)) + (c + z) ≡ (a + b + c) + (x + y + z)
      turned a b c x y z = omega arith

  pub all_come : (hs : List Happening) → rpcs_that_came (filter stands hs) ≡ sum_by comes hs
  all_come hs =
      ap₂ (λ (m n : ℕ). m + n)
      (ap₂ (λ (m n : ℕ). m + n) (all_add RpcsHeard hs) (all_add RpcsGraylisted hs))
      (all_add RpcsLate hs)
      ∙ three_sums hs

-- ---- where all of them stand

all_stand : (hs : List Happening) → filter (λ (h : Happening). true) hs ≡ hs
all_stand [] = refl
all_stand (h ∷ hs) = ap (λ (xs : List Happening). h ∷ xs) (all_stand hs)

pub amount_is : (kind : Kind) (hs : List Happening) → amount_in hs kind ≡ sum_by (adds (λ (h : Happening). true) kind) hs
amount_is kind hs =
    ap (λ (xs : List Happening). amount_in xs kind) (sym (all_stand hs)) ∙ all_add (λ (h : Happening). true) kind hs
