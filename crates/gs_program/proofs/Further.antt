-- What further arguments give, one option after the other.
use Rattle.std.proofs.Common.{◌≡◌, ◌≤◌, ℕ, Bool, true, false, if◌then◌else◌, List, [], ◌∷◌, Some, drop, get_or, length, map, sym, ap, ◌∙◌, arith}
use Rattle.gs_program.specs.Options.{Given, Rule, by_itself, given_from, takes_value, with_given, with_its_value}

-- an option without a value is given, and then what the arguments after it give
pub word_more : {A : Type 0} (f : A → List ℕ) (rules : List Rule) (w : List Given) (xs : List A) (x : A) → 2 ≤ length xs → x ≡ get_or xs 0 x
    → takes_value rules (f x) ≡ false
    → given_from rules (Some w) (map f xs) ≡ given_from rules (with_given rules w (by_itself (f x))) (map f (drop 1 xs))
word_more f rules w [] x low is word = absurd (omega (arith, low))
word_more f rules w (y ∷ []) x low is word = absurd (omega (arith, low))
word_more f rules w (y ∷ z ∷ xs) x low is word =
    let same : takes_value rules (f y) ≡ false = ap (λ v. takes_value rules (f v)) (sym is) ∙ word in
    ap (λ (b : Bool). if b then given_from rules (with_given rules w (with_its_value (f y) (f z))) (map f xs) else given_from rules (with_given rules w (by_itself (f y))) (f z ∷ map f xs)) same
    ∙ ap (λ v. given_from rules (with_given rules w (by_itself (f v))) (f z ∷ map f xs)) (sym is)

-- and so does one with a value
pub value_more : {A : Type 0} (f : A → List ℕ) (rules : List Rule) (w : List Given) (xs : List A) (x y : A) → 2 ≤ length xs → x ≡ get_or xs 0 x → y ≡ get_or xs 1 y
    → takes_value rules (f x) ≡ true
    → given_from rules (Some w) (map f xs) ≡ given_from rules (with_given rules w (with_its_value (f x) (f y))) (map f (drop 2 xs))
value_more f rules w [] x y low is is' word = absurd (omega (arith, low))
value_more f rules w (v ∷ []) x y low is is' word = absurd (omega (arith, low))
value_more f rules w (v ∷ u ∷ xs) x y low is is' word =
    let same : takes_value rules (f v) ≡ true = ap (λ t. takes_value rules (f t)) (sym is) ∙ word in
    ap (λ (b : Bool). if b then given_from rules (with_given rules w (with_its_value (f v) (f u))) (map f xs) else given_from rules (with_given rules w (by_itself (f v))) (f u ∷ map f xs)) same
    ∙ (λ i. given_from rules (with_given rules w (with_its_value (f (sym is i)) (f (sym is' i)))) (map f xs))
