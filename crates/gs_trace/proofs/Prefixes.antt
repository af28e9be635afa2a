-- Texts that tell what they are of and where they end, and how such texts are put together.
use Rattle.std.proofs.Common.{◌≡◌, ℕ, Bool, true, false, ◌&&◌, leb, eqb, cond, List, [], ◌∷◌, ◌++◌, map, flat_map, refl, sym, ap, ◌∙◌, subst, append_assoc, eq-eqb, true≢false}
use Rattle.std.specs.List.{AllByRecursion}
use Rattle.std.proofs.lemmas.List.{append_cancel_left}

-- ---- what may follow a text

abbrev pub Anything : List ℕ → Type 0
Anything s = Unit {0}

abbrev pub is_digit : ℕ → Bool
is_digit c = leb 48 c && leb c 57

-- no digit
abbrev pub NoDigit : List ℕ → Type 0
NoDigit [] = Unit {0}
NoDigit (c ∷ s) = is_digit c ≡ false

-- ---- texts that tell

-- The text of a value tells a part of it, and where the text ends, whatever follows it that may.
pub record Tells {A B : Type 0} (After : List ℕ → Type 0) (Fits : A → Type 0) (text : A → List ℕ) (part : A → B) : Type 0 where
  pub tell : (x y : A) (s t : List ℕ) → After s → After t → Fits x → Fits y → text x ++ s ≡ text y ++ t → (part x ≡ part y) × (s ≡ t)

-- a text that tells all of a value
abbrev pub TellsAll : {A : Type 0} → (List ℕ → Type 0) → (A → Type 0) → (A → List ℕ) → Type 0
TellsAll {A} After Fits text = Tells After Fits text (λ (x : A). x)

-- a text that tells something whatever follows it
pub anywhere : {A B : Type 0} {After : List ℕ → Type 0} {Fits : A → Type 0} {f : A → List ℕ} {p : A → B}
    → Tells Anything Fits f p → Tells After Fits f p
anywhere told = record { tell = λ x y s t fs ft hx hy e. told.tell x y s t tt tt hx hy e }

-- a text in front
pub front : {A B : Type 0} {After : List ℕ → Type 0} {Fits : A → Type 0} {f : A → List ℕ} {p : A → B}
    → (k : List ℕ) → Tells After Fits f p → Tells After Fits (λ x. k ++ f x) p
front {f = f} k told = record {
  tell = λ x y s t fs ft hx hy e.
      told.tell x y s t fs ft hx hy (append_cancel_left k (f x ++ s) (f y ++ t) (sym (append_assoc k (f x) s) ∙ e ∙ append_assoc k (f y) t));
}

-- a text at the end
pub back : {A B : Type 0} {After : List ℕ → Type 0} {Fits : A → Type 0} {f : A → List ℕ} {p : A → B}
    → Tells After Fits f p → (k : List ℕ) → ((s : List ℕ) → After (k ++ s)) → Tells Anything Fits (λ x. f x ++ k) p
back {f = f} told k after = record {
  tell = λ x y s t fs ft hx hy e.
      let both = told.tell x y (k ++ s) (k ++ t) (after s) (after t) hx hy (sym (append_assoc (f x) k s) ∙ e ∙ append_assoc (f y) k t) in
      (both.0, append_cancel_left k s t both.1);
}

-- one after the other
pub and_then : {A B C : Type 0} {After : List ℕ → Type 0} {Fits : A → Type 0} {f g : A → List ℕ} {p : A → B} {q : A → C}
    → Tells Anything Fits f p → Tells After Fits g q → Tells {B = B × C} After Fits (λ x. f x ++ g x) (λ x. (p x, q x))
and_then {f = f} {g = g} {p = p} {q = q} first second = record {
  tell = λ x y s t fs ft hx hy e.
      let one = first.tell x y (g x ++ s) (g y ++ t) tt tt hx hy (sym (append_assoc (f x) (g x) s) ∙ e ∙ append_assoc (f y) (g y) t) in
      let two = second.tell x y s t fs ft hx hy one.1 in
      (λ i. (one.0 i, two.0 i), two.1);
}

-- one after the other, where the second begins with what may follow the first
pub and_next : {A B C : Type 0} {First After : List ℕ → Type 0} {Fits : A → Type 0} {f g : A → List ℕ} {p : A → B} {q : A → C}
    → Tells First Fits f p → Tells After Fits g q → ((x : A) (s : List ℕ) → First (g x ++ s)) → Tells {B = B × C} After Fits (λ x. f x ++ g x) (λ x. (p x, q x))
and_next {f = f} {g = g} {p = p} {q = q} first second begins = record {
  tell = λ x y s t fs ft hx hy e.
      let one = first.tell x y (g x ++ s) (g y ++ t) (begins x s) (begins y t) hx hy (sym (append_assoc (f x) (g x) s) ∙ e ∙ append_assoc (f y) (g y) t) in
      let two = second.tell x y s t fs ft hx hy one.1 in
      (λ i. (one.0 i, two.0 i), two.1);
}

-- one after the other, with a text between them
pub next : {A B C : Type 0} {First After : List ℕ → Type 0} {Fits : A → Type 0} {f g : A → List ℕ} {p : A → B} {q : A → C}
    → Tells First Fits f p → (k : List ℕ) → ((s : List ℕ) → First (k ++ s)) → Tells After Fits g q → Tells {B = B × C} After Fits (λ x. f x ++ k ++ g x) (λ x. (p x, q x))
next first k begins second = and_then (back first k begins) second

-- and what follows of what the first text tells
pub and_its : {A B : Type 0} {After : List ℕ → Type 0} {Fits : A → Type 0} {f : A → List ℕ} {p : A → B}
    → Tells Anything Fits f p → (g : B → List ℕ) → Tells After Fits (λ x. f x ++ g (p x)) p
and_its {B = B} {f = f} {p = p} first g = record {
  tell = λ x y s t fs ft hx hy e.
      let one = first.tell x y (g (p x) ++ s) (g (p y) ++ t) tt tt hx hy (sym (append_assoc (f x) (g (p x)) s) ∙ e ∙ append_assoc (f y) (g (p y)) t) in
      let same : g (p x) ++ s ≡ g (p x) ++ t = one.1 ∙ ap (λ (b : B). g b ++ t) (sym one.0) in
      (one.0, append_cancel_left (g (p x)) s t same);
}

-- the text of a part
pub of_part : {A B C : Type 0} {After : List ℕ → Type 0} {Fits : A → Type 0} {FitsPart : B → Type 0} {f : B → List ℕ} {p : B → C}
    → Tells After FitsPart f p → (g : A → B) → ((x : A) → Fits x → FitsPart (g x)) → Tells After Fits (λ x. f (g x)) (λ x. p (g x))
of_part told g fits = record { tell = λ x y s t fs ft hx hy e. told.tell (g x) (g y) s t fs ft (fits x hx) (fits y hy) e }

-- what is made of what is told
pub made : {A B C : Type 0} {After : List ℕ → Type 0} {Fits : A → Type 0} {f : A → List ℕ} {p : A → B}
    → Tells After Fits f p → (m : B → C) → Tells After Fits f (λ x. m (p x))
made told m = record {
  tell = λ x y s t fs ft hx hy e.
      let both = told.tell x y s t fs ft hx hy e in
      (ap m both.0, both.1);
}

-- ---- texts that differ

-- whether two texts differ before either ends
abbrev pub clash : List ℕ → List ℕ → Bool
clash [] v = false
clash (a ∷ u) [] = false
clash (a ∷ u) (b ∷ v) = cond (eqb a b) (clash u v) true

same_no_clash : (u : List ℕ) → clash u u ≡ false
same_no_clash [] = refl
same_no_clash (a ∷ u) = rw (eq-eqb a a refl) (same_no_clash u)

pub clashes : (u v : List ℕ) → clash u v ≡ true → u ≡ v → ⊥
clashes u v c e =
    let none : clash u v ≡ false = subst (λ (w : List ℕ). clash u w ≡ false) e (same_no_clash u) in
    true≢false (sym c ∙ none)

-- a value's text begins otherwise
abbrev pub Avoids : {A : Type 0} → ℕ → (A → Type 0) → (A → List ℕ) → Type 0
Avoids {A} c Fits text = (x : A) (s t : List ℕ) → Fits x → text x ++ s ≡ c ∷ t → ⊥

-- ---- one text after the other

module _ {A B : Type 0} (After Stop : List ℕ → Type 0) (Fits : A → Type 0) (text : A → List ℕ) (part : A → B)
    (told : Tells After Fits text part)
    (stops : (x : A) (s t : List ℕ) → Fits x → Stop t → text x ++ s ≡ t → ⊥)
    (after_stop : (s : List ℕ) → Stop s → After s)
    (after_item : (x : A) (s : List ℕ) → Fits x → After (text x ++ s)) where
  after_items : (xs : List A) (s : List ℕ) → AllByRecursion Fits xs → Stop s → After (flat_map text xs ++ s)
  after_items [] s h stop = after_stop s stop
  after_items (x ∷ xs) s h stop = subst After (sym (append_assoc (text x) (flat_map text xs) s)) (after_item x (flat_map text xs ++ s) h.0)

  -- texts one after the other, up to where they stop
  pub tell_items : (xs ys : List A) (s t : List ℕ) → AllByRecursion Fits xs → AllByRecursion Fits ys → Stop s → Stop t → flat_map text xs ++ s ≡ flat_map text ys ++ t → (map part xs ≡ map part ys) × (s ≡ t)
  tell_items [] [] s t hx hy ss st e = (refl, e)
  tell_items [] (y ∷ ys) s t hx hy ss st e =
      absurd (stops y (flat_map text ys ++ t) s hy.0 ss (sym (e ∙ append_assoc (text y) (flat_map text ys) t)))
  tell_items (x ∷ xs) [] s t hx hy ss st e =
      absurd (stops x (flat_map text xs ++ s) t hx.0 st (sym (append_assoc (text x) (flat_map text xs) s) ∙ e))
  tell_items (x ∷ xs) (y ∷ ys) s t hx hy ss st e =
      let one = told.tell x y (flat_map text xs ++ s) (flat_map text ys ++ t) (after_items xs s hx.1 ss) (after_items ys t hy.1 st) hx.0 hy.0 (sym (append_assoc (text x) (flat_map text xs) s) ∙ e ∙ append_assoc (text y) (flat_map text ys) t) in
      let more = tell_items xs ys s t hx.1 hy.1 ss st one.1 in
      (λ i. one.0 i ∷ more.0 i, more.1)
