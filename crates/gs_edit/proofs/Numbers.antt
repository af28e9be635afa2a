-- The number of a part.
use Rattle.std.proofs.Common.{◌≡◌, ◌<◌, ◌≤◌, ◌^◌, ◌==◌, ◌&&◌, ℕ, true, false, List, [], ◌∷◌, length, Some, None, Result, Err, refl, sym, ap, ◌∙◌, arith, inl, inr, true≢false}
use Rattle.std.proofs.lemmas.Bool.Decides.{leb_tells}
use Rattle.std.proofs.lemmas.Option.{same_Some, none-some}
use Rattle.std.proofs.lemmas.Str.Parse.{IsNumeralModel, numerals_by_value, parse_digits, tells_all_ascii_digits}
use Rattle.std.specs.Char.{is_ascii_digit}
use Rattle.std.specs.List.{list_all}
use Rattle.std.specs.Str.{all_ascii_digits}
use Rattle.std.specs.Str.Parse.{ParsesUnsigned, digits_value}
use Rattle.gs_edit.specs.Keys.{number_of}

-- the two tests of digits
pub digits_all : (part : List ℕ) → list_all is_ascii_digit part ≡ all_ascii_digits part
digits_all [] = refl
digits_all (byte ∷ bytes) = ap (λ rest. is_ascii_digit byte && rest) (digits_all bytes)

pub number_of-empty : (part : List ℕ) → (length part == 0) ≡ true → number_of part ≡ None
number_of-empty part empty = rw empty refl

pub number_of-other : (part : List ℕ) → (length part == 0) ≡ false → list_all is_ascii_digit part ≡ false → number_of part ≡ None
number_of-other part some other = rw (some, sym (digits_all part) ∙ other) refl

pub number_of-digits : (part : List ℕ) → (length part == 0) ≡ false → list_all is_ascii_digit part ≡ true → number_of part ≡ Some (digits_value 10 part)
number_of-digits part some digits = rw (some, sym (digits_all part) ∙ digits) refl

-- whatever number nothing is
pub none_at_all : (part : List ℕ) → number_of part ≡ None → (n : ℕ) → number_of part ≡ Some n → 2 ^ 64 ≤ n
none_at_all part none n is = absurd (none-some n (sym none ∙ is))

own : IsNumeralModel (λ part. all_ascii_digits part ≡ true) (digits_value 10)
own = numerals_by_value (λ part. all_ascii_digits part ≡ true) tells_all_ascii_digits

some_bytes : (part : List ℕ) → (length part == 0) ≡ false → 0 < length part
some_bytes [] some = absurd (true≢false some)
some_bytes (byte ∷ bytes) some = omega arith

-- digits that are refused write a number that is too large
pub number_of-large : {E : Type 0} (part : List ℕ) (r : Result ℕ E) (e : E) → r ≡ Err e → ParsesUnsigned 64 10 part r → (length part == 0) ≡ false → list_all is_ascii_digit part ≡ true
    → (n : ℕ) → number_of part ≡ Some n → 2 ^ 64 ≤ n
number_of-large part r e refused parsed some digits n is =
    let value : digits_value 10 part ≡ n = same_Some _ _ (sym (number_of-digits part some digits) ∙ is) in
    let not_small = rw refused at (parse_digits own 64 part r parsed (sym (digits_all part) ∙ digits)) in
    elim (leb_tells (2 ^ 64) (digits_value 10 part)) [
      | inl large ↦ rw (← value) large.1
      | inr small ↦ absurd (not_small (some_bytes part some, small.1))
    ]
