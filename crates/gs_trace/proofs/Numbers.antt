-- A number's text tells it wherever no digit follows.
use Rattle.std.proofs.Common.{◌≡◌, ℕ, suc, ◌<◌, ◌≤◌, ◌^◌, true, false, leb, List, [], ◌∷◌, ◌++◌, length, ℤ, pos, negsuc, unsigned_abs, decimal, refl, sym, ap, ◌∙◌, subst, le-leb, le-ltb, arith, true≢false}
use Rattle.std.specs.Str.Parse.{AllDigits, digits_value}
use Rattle.std.proofs.lemmas.Bool.{and_from}
use Rattle.std.proofs.lemmas.Fmt.{decimal_is_IsNumeral_wide}
use Rattle.std.proofs.lemmas.Str.Parse.{digit_from_value}
use Rattle.std.specs.Char.{digit_value}
use Rattle.gs_trace.specs.Texts.{whole_text}
use Rattle.gs_trace.proofs.Prefixes.{NoDigit, TellsAll, Avoids, is_digit}

pub is_digit_from_value : (c : ℕ) → digit_value c < 10 → is_digit c ≡ true
is_digit_from_value c h =
    let r = digit_from_value c h in
    and_from (leb 48 c) (leb c 57) (le-leb 48 c r.0) (le-leb c 57 r.1)

no_digit_first : (c : ℕ) (s t : List ℕ) → digit_value c < 10 → NoDigit s → s ≡ c ∷ t → ⊥
no_digit_first c s t h none e =
    let is : is_digit c ≡ false = subst NoDigit e none in
    true≢false (sym (is_digit_from_value c h) ∙ is)

-- digits end where none follows
digits_end : (u v s t : List ℕ) → AllDigits 10 u → AllDigits 10 v → NoDigit s → NoDigit t → u ++ s ≡ v ++ t → (u ≡ v) × (s ≡ t)
digits_end [] [] s t hu hv ns nt e = (refl, e)
digits_end [] (d ∷ v) s t hu hv ns nt e = absurd (no_digit_first d s (v ++ t) hv.0 ns e)
digits_end (c ∷ u) [] s t hu hv ns nt e = absurd (no_digit_first c t (u ++ s) hu.0 nt (sym e))
digits_end (c ∷ u) (d ∷ v) s t hu hv ns nt e =
    let same : c ≡ d = cc in
    let rest : u ++ s ≡ v ++ t = cc in
    let more = digits_end u v s t hu.1 hv.1 ns nt rest in
    (λ i. same i ∷ more.0 i, more.1)

-- at most 64 digits
abbrev pub IsShort : ℕ → Type 0
IsShort n = n < 10 ^ 64

pub tell_decimal : TellsAll NoDigit IsShort decimal
tell_decimal = record {
  tell = λ m n s t ns nt hm hn e.
      let a = decimal_is_IsNumeral_wide m hm in
      let b = decimal_is_IsNumeral_wide n hn in
      let both = digits_end (decimal m) (decimal n) s t a.0.1 b.0.1 ns nt e in
      (sym a.1 ∙ ap (digits_value 10) both.0 ∙ b.1, both.1);
}

first_digit : (u : List ℕ) (c : ℕ) (s t : List ℕ) → 0 < length u → AllDigits 10 u → u ++ s ≡ c ∷ t → is_digit c ≡ true
first_digit [] c s t some h e = absurd (omega arith)
first_digit (d ∷ u) c s t some h e =
    let same : d ≡ c = cc in
    subst (λ (x : ℕ). is_digit x ≡ true) same (is_digit_from_value d h.0)

pub decimal_avoids : (c : ℕ) → is_digit c ≡ false → Avoids c IsShort decimal
decimal_avoids c other n s t h e =
    let a = decimal_is_IsNumeral_wide n h in
    true≢false (sym (first_digit (decimal n) c s t a.0.0 a.0.1 e) ∙ other)

-- ---- whole numbers

abbrev pub IsWhole : ℤ → Type 0
IsWhole z = unsigned_abs z ≤ 2 ^ 127

whole_pos : (n : ℕ) (s : List ℕ) → whole_text (pos n) ++ s ≡ decimal n ++ s
whole_pos n s = rw (le-ltb n 0 (omega arith)) refl

pub tell_whole : TellsAll NoDigit IsWhole whole_text
tell_whole = record { tell = by }
  where
    by : (y z : ℤ) (s t : List ℕ) → NoDigit s → NoDigit t → IsWhole y → IsWhole z → whole_text y ++ s ≡ whole_text z ++ t → (y ≡ z) × (s ≡ t)
    by (pos m) (pos n) s t ns nt hm hn e =
        let both = tell_decimal.tell m n s t ns nt (omega arith) (omega arith) (sym (whole_pos m s) ∙ e ∙ whole_pos n t) in
        (ap pos both.0, both.1)
    by (pos m) (negsuc n) s t ns nt hm hn e =
        absurd (decimal_avoids 45 refl m s (decimal (suc n) ++ t) (omega arith) (sym (whole_pos m s) ∙ e))
    by (negsuc m) (pos n) s t ns nt hm hn e =
        absurd (decimal_avoids 45 refl n t (decimal (suc m) ++ s) (omega arith) (sym (whole_pos n t) ∙ sym e))
    by (negsuc m) (negsuc n) s t ns nt hm hn e =
        let rest : decimal (suc m) ++ s ≡ decimal (suc n) ++ t = cc in
        let both = tell_decimal.tell (suc m) (suc n) s t ns nt (omega arith) (omega arith) rest in
        let same : m ≡ n = omega (arith, both.0) in
        (ap negsuc same, both.1)
