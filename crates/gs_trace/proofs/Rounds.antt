-- The rounds of a trace, one after the other, are the trace.
use Rattle.std.proofs.Common.{◌≡◌, ℕ, zero, suc, ◌+◌, ◌<◌, Bool, true, false, cond, eqb, List, [], ◌∷◌, ◌++◌, filter, flat_map, reverse, refl, sym, ap, ◌∙◌, subst, append-nil, arith, add-one, eq-eqb, ne_eqb}
use Rattle.std.specs.List.{AllByRecursion, range_with_len}
use Rattle.std.proofs.lemmas.List.{reverse-append}
use Rattle.gs_trace.specs.Lines.{Seen, after_end, after_ends, ends_round, in_round, up_to_end}

-- ---- all of a trace

cut_at_end : (es : List Seen) → up_to_end es ++ after_end es ≡ es
cut_at_end [] = refl
cut_at_end (x ∷ es) = by (ends_round x) (cut_at_end es)
  where
    by : (b : Bool) → up_to_end es ++ after_end es ≡ es → (x ∷ cond b [] (up_to_end es)) ++ cond b es (after_end es) ≡ x ∷ es
    by true more = refl
    by false more = ap (λ l. x ∷ l) more

one_end_more : (r : ℕ) (es : List Seen) → after_ends (suc r) es ≡ after_end (after_ends r es)
one_end_more zero es = refl
one_end_more (suc r) es = one_end_more r (after_end es)

last_round : (last : ℕ) (es : List Seen) → in_round last last es ≡ after_ends last es
last_round last es = rw (eq-eqb last last refl) refl

round_before : (last r : ℕ) (es : List Seen) → r < last → in_round last r es ≡ up_to_end (after_ends r es)
round_before last r es lt = rw (ne_eqb r last (λ e. omega arith)) refl

rounds_from : (last k n : ℕ) (es : List Seen) → k + n ≡ last → flat_map (λ r. in_round last r es) (range_with_len k (suc n)) ≡ after_ends k es
rounds_from last k zero es e =
    let same : k ≡ last = omega arith in
    append-nil (in_round last k es) ∙ ap (λ (r : ℕ). in_round last r es) same ∙ last_round last es ∙ ap (λ (r : ℕ). after_ends r es) (sym same)
rounds_from last k (suc n) es e =
    let lt : k < last = omega arith in
    let more = rounds_from last (k + 1) n es (omega arith) in
    let next : after_ends (k + 1) es ≡ after_end (after_ends k es) = ap (λ (r : ℕ). after_ends r es) (add-one k) ∙ one_end_more k es in
    let first : in_round last k es ≡ up_to_end (after_ends k es) = round_before last k es lt in
    (λ i. first i ++ (more ∙ next) i) ∙ cut_at_end (after_ends k es)

pub rounds_are_all : (last : ℕ) (es : List Seen) → flat_map (λ r. in_round last r es) (range_with_len 0 (suc last)) ≡ es
rounds_are_all last es = rounds_from last 0 last es (omega arith)

-- ---- what holds of each element

pub all_either : {A : Type 0} (P : A → Type 0) (b : Bool) (xs ys : List A) → AllByRecursion P xs → AllByRecursion P ys → AllByRecursion P (cond b xs ys)
all_either P true xs ys hx hy = hx
all_either P false xs ys hx hy = hy

pub all_filter : {A : Type 0} (P : A → Type 0) (test : A → Bool) (xs : List A) → AllByRecursion P xs → AllByRecursion P (filter test xs)
all_filter P test [] h = tt
all_filter P test (x ∷ xs) h =
    let more = all_filter P test xs h.1 in
    all_either P (test x) (x ∷ filter test xs) (filter test xs) (h.0, more) more

pub all_append : {A : Type 0} (P : A → Type 0) (xs ys : List A) → AllByRecursion P xs → AllByRecursion P ys → AllByRecursion P (xs ++ ys)
all_append P [] ys hx hy = hy
all_append P (x ∷ xs) ys hx hy = (hx.0, all_append P xs ys hx.1 hy)

pub all_reverse : {A : Type 0} (P : A → Type 0) (xs : List A) → AllByRecursion P xs → AllByRecursion P (reverse xs)
all_reverse P [] h = tt
all_reverse P (x ∷ xs) h =
    subst (AllByRecursion P) (sym (reverse-append (x ∷ []) xs)) (all_append P (reverse xs) (x ∷ []) (all_reverse P xs h.1) (h.0, tt))

pub all_flat : {A B : Type 0} (P : A → Type 0) (Q : B → Type 0) (f : A → List B) (xs : List A) → ((x : A) → P x → AllByRecursion Q (f x)) → AllByRecursion P xs → AllByRecursion Q (flat_map f xs)
all_flat P Q f [] each h = tt
all_flat P Q f (x ∷ xs) each h = all_append Q (f x) (flat_map f xs) (each x h.0) (all_flat P Q f xs each h.1)

all_up_to_end : (P : Seen → Type 0) (es : List Seen) → AllByRecursion P es → AllByRecursion P (up_to_end es)
all_up_to_end P [] h = tt
all_up_to_end P (x ∷ es) h = (h.0, all_either P (ends_round x) [] (up_to_end es) tt (all_up_to_end P es h.1))

all_after_end : (P : Seen → Type 0) (es : List Seen) → AllByRecursion P es → AllByRecursion P (after_end es)
all_after_end P [] h = tt
all_after_end P (x ∷ es) h = all_either P (ends_round x) es (after_end es) h.1 (all_after_end P es h.1)

all_after_ends : (P : Seen → Type 0) (r : ℕ) (es : List Seen) → AllByRecursion P es → AllByRecursion P (after_ends r es)
all_after_ends P zero es h = h
all_after_ends P (suc r) es h = all_after_ends P r (after_end es) (all_after_end P es h)

pub all_in_round : (P : Seen → Type 0) (last r : ℕ) (es : List Seen) → AllByRecursion P es → AllByRecursion P (in_round last r es)
all_in_round P last r es h =
    let rest = all_after_ends P r es h in
    all_either P (eqb r last) (after_ends r es) (up_to_end (after_ends r es)) rest (all_up_to_end P (after_ends r es) rest)
