-- What seeded words give from a state on.
use Rattle.std.proofs.Common.{◌≡◌, ℕ, zero, suc, ◌+◌, ◌≤◌, ◌<◌, true, false, nat_lt, [], ◌∷◌, ◌++◌, length, drop, get_or, refl, ap, arith, add-one, drop-cons, zero-add}
use Rattle.std.proofs.lemmas.Bool.Decides.{nat_tests}
use Rattle.std.proofs.lemmas.List.{drop_all}
use Rattle.gs_params.specs.Picks.{next_words}
use Rattle.gs_params.specs.Seeding.{SeededState, generator_word, generator_after, seeded_word, seeded_after}

-- after the list's end, what its generator gives
after_the_list : (n : ℕ) (s : SeededState) → length s.list ≤ s.given → next_words seeded_word seeded_after n s ≡ next_words generator_word generator_after n s.generator
unfolding next_words
after_the_list zero s h = refl
after_the_list (suc n) s h =
    let e : nat_lt s.given (length s.list) ≡ false = grind (arith, nat_tests) in
    let rest : SeededState = record s { generator = generator_after s.generator } in
    rw e (ap (λ ws. generator_word s.generator ∷ ws) (after_the_list n rest h))

-- where k words of the list are left, those, and then what its generator gives
pub list_first : (k n : ℕ) (s : SeededState) → s.given + k ≡ length s.list → next_words seeded_word seeded_after (k + n) s ≡ drop s.given s.list ++ next_words generator_word generator_after n s.generator
unfolding next_words
list_first zero n s h =
    let none : drop s.given s.list ≡ [] = drop_all s.given s.list (omega arith) in
    rw (zero-add n, none) (after_the_list n s (omega arith))
list_first (suc k) n s h =
    let e : nat_lt s.given (length s.list) ≡ true = grind (arith, nat_tests) in
    let here : s.given < length s.list = omega arith in
    let more : suc k + n ≡ suc (k + n) = omega arith in
    let rest : SeededState = record s { given = suc s.given } in
    let left : suc s.given + k ≡ length s.list = omega arith in
    rw (more, e, drop-cons s.list s.given 0, add-one s.given) (ap (λ ws. get_or s.list s.given 0 ∷ ws) (list_first k n rest left))
