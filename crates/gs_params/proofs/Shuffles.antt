-- One exchange of a shuffle, and one word.
use Rattle.std.proofs.Common.{◌≡◌, ℕ, suc, ◌+◌, ◌-◌, ◌%◌, ◌<◌, ◌≤◌, List, length, refl, arith}
use Rattle.std.specs.List.{swap}
use Rattle.gs_params.specs.Picks.{next_words, after_words, shuffled}

-- of the words from place i on, the first exchanges place i
pub shuffled_step : {A S : Type 0} (word : S → ℕ) (after : S → S) (k i : ℕ) (s : S) (xs : List A) → i < k → shuffled i (next_words word after (k - i) s) xs ≡ shuffled (i + 1) (next_words word after (k - (i + 1)) (after s)) (swap xs i (i + word s % (length xs - i)))
unfolding next_words shuffled
shuffled_step word after k i s xs h = let e : k - i ≡ suc (k - (i + 1)) = omega arith in rw e refl

-- the state after them is that after the others, from the state after the first
pub after_words_step : {S : Type 0} (word : S → ℕ) (after : S → S) (k i : ℕ) (s : S) → i < k → after_words word after (k - i) s ≡ after_words word after (k - (i + 1)) (after s)
unfolding after_words
after_words_step word after k i s h = let e : k - i ≡ suc (k - (i + 1)) = omega arith in rw e refl

-- where no word is left, nothing more is exchanged
pub shuffled_end : {A S : Type 0} (word : S → ℕ) (after : S → S) (k i : ℕ) (s : S) (xs : List A) → k ≤ i → shuffled i (next_words word after (k - i) s) xs ≡ xs
unfolding next_words shuffled
shuffled_end word after k i s xs h = let e : k - i ≡ 0 = omega arith in rw e refl

pub after_words_end : {S : Type 0} (word : S → ℕ) (after : S → S) (k i : ℕ) (s : S) → k ≤ i → after_words word after (k - i) s ≡ s
unfolding after_words
after_words_end word after k i s h = let e : k - i ≡ 0 = omega arith in rw e refl
