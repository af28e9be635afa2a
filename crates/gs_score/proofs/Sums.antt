-- A sum over all that counts is the same over any list that leaves none of it out.
use Rattle.std.proofs.Common.{zero, ◌-◌, nat_lt, ◌≡◌, ℕ, suc, ◌+◌, ◌*◌, ℤ, pos, negsuc, ◌+ℤ◌, ◌≢◌, ◌⊎◌, inl, inr, Bool, true, false, cond, List, [], ◌∷◌, map, drop, Some, refl, sym, ap, subst, ◌∙◌, arith}
use Rattle.std.specs.Prelude.{slice_get, ◌||◌}
use Rattle.std.specs.Bool.{Decides}
use Rattle.std.specs.List.{list_any, IsDistinct, AllByRecursion}
use Rattle.std.specs.Map.{keys_of}
use Rattle.std.proofs.lemmas.Slice.Eq.{slice_eq-Decides}
use Rattle.std.proofs.lemmas.Bool.Decides.{Decides-eqb}
use Rattle.gs_base.specs.Names.{same_topic}
use Rattle.gs_base.specs.declared.names.Topic.{Topic}
use Rattle.gs_params.specs.declared.params.Params.{Params}
use Rattle.gs_score.specs.declared.counter.Decay.{Decay}
use Rattle.gs_score.specs.declared.rules.TopicRules.{TopicRules}
use Rattle.gs_score.specs.declared.standing.Kind.TheVariants.{First, Near, Deficit, Invalid}
use Rattle.gs_score.specs.declared.standing.Standing.{Standing}
use Rattle.gs_score.specs.Millionths.{times, scaled}
use Rattle.gs_score.specs.Counters.{decayed, decay_step}
use Rattle.gs_score.specs.Standings.{decay_of, fresh, held, nothing_held}
use Rattle.gs_score.specs.Formula.{topic_part}
use Rattle.gs_score.specs.Accounts.{Covers, held_in, rules_of, standing_in, topic_sum, total}
use Rattle.std.proofs.lemmas.Int.{ints}
use Rattle.std.proofs.lemmas.List.{drop_more}
use Rattle.std.proofs.lemmas.Option.{slice_get_within, get_or_from_slice_get}

pub drop_first : {A : Type 0} (xs : List A) (i : ℕ) (x : A) → Some x ≡ slice_get xs i → drop i xs ≡ x ∷ drop (i + 1) xs
drop_first xs i x h = drop_more xs i x (slice_get_within xs i x (sym h)) ∙ ap (λ y. y ∷ drop (i + 1) xs) (get_or_from_slice_get xs i x x (sym h))

-- none is the same as one after it
abbrev pub Apart : {A : Type 0} → (A → A → Bool) → List A → Type 0
Apart eq [] = Unit {0}
Apart eq (x ∷ xs) = (list_any (eq x) xs ≡ false) × Apart eq xs

none_listed : {A : Type 0} (test : A → Bool) (xs : List A) → AllByRecursion (λ y. test y ≡ false) xs → list_any test xs ≡ false
none_listed test [] h = refl
none_listed test (x ∷ xs) h = rw (h.0, none_listed test xs h.1) refl

pub apart_from_distinct : {A : Type 0} (eq : A → A → Bool) (xs : List A) → IsDistinct eq xs → Apart eq xs
unfolding IsDistinct
apart_from_distinct eq [] d = tt
apart_from_distinct eq (x ∷ xs) d = (none_listed (eq x) xs d.0, apart_from_distinct eq xs d.1)

past : (a b c d : ℤ) → a +ℤ c ≡ d → a +ℤ (b +ℤ c) ≡ b +ℤ d
past a b c d h = omega (arith, ints)

none_added : (a b : ℤ) → a +ℤ (pos 0 +ℤ b) ≡ a +ℤ b
none_added a b = omega (arith, ints)

pub either_false : (a b : Bool) → (a || b) ≡ false → (a ≡ false) × (b ≡ false)
either_false false false h = (refl, refl)
either_false true b h = cc
either_false false true h = cc

pub zeros : {A : Type 0} (f : A → ℤ) → ((t : A) → f t ≡ pos 0) → (ys : List A) → total (map f ys) ≡ pos 0
zeros f h [] = refl
zeros f h (y ∷ ys) = rw (h y, zeros f h ys) refl

-- f, but 0 at x
abbrev pub without : {A : Type 0} → (A → A → Bool) → A → (A → ℤ) → A → ℤ
without eq x f t = cond (eq x t) (pos 0) (f t)

-- where x is not listed, nothing changes
apart : {A : Type 0} (eq : A → A → Bool) (x : A) (f : A → ℤ) (ys : List A) → list_any (eq x) ys ≡ false → total (map (without eq x f) ys) ≡ total (map f ys)
apart eq x f [] h = refl
apart eq x f (y ∷ ys) h =
    let two = either_false (eq x y) (list_any (eq x) ys) h in
    rw (two.0, apart eq x f ys two.1) refl

abbrev pub Tells : {A : Type 0} → (A → A → Bool) → Type 0
Tells {A = A} eq = (x y : A) → ((eq x y ≡ true) × (x ≡ y)) ⊎ ((eq x y ≡ false) × (x ≢ y))

pub symm : {A : Type 0} (eq : A → A → Bool) (x y : A) → ((eq x y ≡ true) × (x ≡ y)) ⊎ ((eq x y ≡ false) × (x ≢ y)) → ((eq y x ≡ true) × (y ≡ x)) ⊎ ((eq y x ≡ false) × (y ≢ x)) → eq x y ≡ eq y x
symm eq x y (inl p) (inl q) = p.0 ∙ sym q.0
symm eq x y (inl p) (inr q) = absurd (q.1 (sym p.1))
symm eq x y (inr p) (inl q) = absurd (p.1 (sym q.1))
symm eq x y (inr p) (inr q) = p.0 ∙ sym q.0

-- what x counts for, and the others
split : {A : Type 0} (eq : A → A → Bool) → Tells eq → (x : A) (f : A → ℤ) (ys : List A) → Apart eq ys → (list_any (eq x) ys ≡ false → f x ≡ pos 0) → f x +ℤ total (map (without eq x f) ys) ≡ total (map f ys)
split eq tells x f [] d h = rw (h refl) refl
split eq tells x f (y ∷ ys) d h =
    elim (tells x y) [
      | inl p ↦ (
          let e : list_any (eq x) ys ≡ false = subst (λ z. list_any (eq z) ys ≡ false) (sym p.1) d.0 in
          rw (p.0, apart eq x f ys e) (none_added (f x) (total (map f ys)) ∙ ap (λ z. z +ℤ total (map f ys)) (ap f p.1))
          )
      | inr p ↦ (
          let k : list_any (eq x) ys ≡ false → f x ≡ pos 0 = λ n. h (rw (p.0, n) refl) in
          rw p.0 (past (f x) (f y) (total (map (without eq x f) ys)) (total (map f ys)) (split eq tells x f ys d.1 k))
          )
    ]

pub sum_same : {A : Type 0} (eq : A → A → Bool) → Tells eq → (xs ys : List A) (f : A → ℤ) → Apart eq xs → Apart eq ys → ((t : A) → list_any (eq t) xs ≡ false → f t ≡ pos 0) → ((t : A) → list_any (eq t) ys ≡ false → f t ≡ pos 0) → total (map f xs) ≡ total (map f ys)
sum_same eq tells [] ys f dx dy nx ny = sym (zeros f (λ t. nx t refl) ys)
sum_same eq tells (x ∷ xs) ys f dx dy nx ny =
    let left : (t : _) → list_any (eq t) xs ≡ false → without eq x f t ≡ pos 0 = λ t k. elim (tells x t) [
      | inl p ↦ rw p.0 refl
      | inr p ↦ rw p.0 (nx t (rw (← symm eq x t (tells x t) (tells t x), p.0, k) refl))
    ] in
    let right : (t : _) → list_any (eq t) ys ≡ false → without eq x f t ≡ pos 0 = λ t k. elim (tells x t) [
      | inl p ↦ rw p.0 refl
      | inr p ↦ rw p.0 (ny t k)
    ] in
    ap (λ z. f x +ℤ z) (sym (apart eq x f xs dx.0) ∙ sum_same eq tells xs ys (without eq x f) dx.1 dy left right) ∙ split eq tells x f ys dy (ny x)

pub from_decides : {P : Type 0} (r : Bool) → Decides r P → ((r ≡ true) × P) ⊎ ((r ≡ false) × (P → ⊥))
from_decides true d = inl (refl, d.0 refl)
from_decides false d = inr (refl, λ p. cc (d.1 p))

topic_cases : (x y : Topic) → ((same_topic x y ≡ true) × (x.0 ≡ y.0)) ⊎ ((same_topic x y ≡ false) × (x.0 ≡ y.0 → ⊥)) → ((same_topic x y ≡ true) × (x ≡ y)) ⊎ ((same_topic x y ≡ false) × (x ≢ y))
topic_cases x y (inl p) = inl (p.0, ap (λ (b : List ℕ). record { 0 = b }) p.1)
topic_cases x y (inr p) = inr (p.0, λ e. p.1 (ap (λ (t : Topic). t.0) e))

pub topics_tell : Tells same_topic
topics_tell x y = topic_cases x y (from_decides (same_topic x y) (slice_eq-Decides Decides-eqb x.0 y.0 (same_topic x y) refl))

pub times_nothing : (a : ℤ) → times a (pos 0) ≡ pos 0
unfolding times
times_nothing (pos a) = let e : a * 0 ≡ 0 = omega arith in rw e refl
times_nothing (negsuc a) = let e : suc a * 0 ≡ 0 = omega arith in rw e refl

nothing_counts : (r : TopicRules) (now : ℕ) → topic_part r now nothing_held ≡ pos 0
unfolding topic_part
nothing_counts r now =
    rw (times_nothing r.factors.w1, times_nothing r.factors.w2, times_nothing r.factors.w3, times_nothing r.factors.w3b, times_nothing r.factors.w4)
    (times_nothing r.factors.topic_weight)

-- nothing decays to nothing
pub step_of_nothing : (d : Decay) → decay_step d 0 ≡ 0
step_of_nothing d =
    let none : scaled d.factor 0 ≡ 0 = let e : d.factor * 0 ≡ 0 = omega arith in rw e refl in
    rw none (either_zero (nat_lt 0 d.floor))
  where
    either_zero : (b : Bool) → ◌≡◌ {A = ℕ} (cond b 0 0) 0
    either_zero true = refl
    either_zero false = refl

pub decayed_nothing : (d : Decay) (n : ℕ) → decayed d n 0 ≡ 0
decayed_nothing d zero = refl
decayed_nothing d (suc n) = ap (decayed d n) (step_of_nothing d) ∙ decayed_nothing d n

pub fresh_held : (r : TopicRules) (decays : ℕ) → held r decays fresh ≡ nothing_held
fresh_held r decays =
    rw (decayed_nothing (decay_of r First) (decays - 0), decayed_nothing (decay_of r Near) (decays - 0), decayed_nothing (decay_of r Deficit) (decays - 0), decayed_nothing (decay_of r Invalid) (decays - 0))
    refl

absent : (es : List (Topic × Standing)) (t : Topic) → list_any (same_topic t) (keys_of es) ≡ false → standing_in es t ≡ fresh
absent [] t h = refl
absent (e ∷ es) t h =
    let two = either_false (same_topic t e.0) (list_any (same_topic t) (keys_of es)) h in
    rw two.0 (absent es t two.1)

-- the sum over the topics that are kept is that over any topics that leave none out
pub same_sum : (params : Params) (decays now : ℕ) (es : List (Topic × Standing)) (ts : List Topic)
    → IsDistinct same_topic (keys_of es)
    → Covers (held_in params decays es) ts
    → topic_sum params now (held_in params decays es) (keys_of es) ≡ topic_sum params now (held_in params decays es) ts
same_sum params decays now es ts d c =
    let f : Topic → ℤ = λ t. topic_part (rules_of params t) now (held_in params decays es t) in
    let none : (t : Topic) → held_in params decays es t ≡ nothing_held → f t ≡ pos 0
    = λ t e. ap (topic_part (rules_of params t) now) e ∙ nothing_counts (rules_of params t) now in
    sum_same same_topic topics_tell (keys_of es) ts f
    (apart_from_distinct same_topic (keys_of es) d) (apart_from_distinct same_topic ts c.apart)
    (λ t h. none t (ap (held (rules_of params t) decays) (absent es t h) ∙ fresh_held (rules_of params t) decays))
    (λ t h. none t (c.all t h))
