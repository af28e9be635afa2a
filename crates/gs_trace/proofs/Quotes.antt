-- Bytes in quotes, escaped or as hexadecimal digits, end at the first quotation mark.
use Rattle.std.proofs.Common.{◌≡◌, ℕ, ◌/◌, ◌%◌, ◌<◌, Bool, true, false, ◌||◌, ltb, eqb, List, [], ◌∷◌, ◌++◌, slice_index, flat_map, Some, None, refl, sym, ap, ◌∙◌, arith, inl, inr, map-id, append_assoc, drop}
use Rattle.std.proofs.lemmas.Bool.{cases_Bool, or_parts, eqb-false}
use Rattle.hex.specs.Hex.{encode_lower, encode_with, hex_digit_value, lower_digits}
use Rattle.hex.proofs.HexLemmas.{IsDigits-lower_digits}
use Rattle.gs_trace.specs.Stored.{IsStoredByte, AreStoredBytes}
use Rattle.gs_trace.specs.Texts.{escaped, quoted, hex_text}
use Rattle.gs_trace.proofs.Prefixes.{Anything, TellsAll, tell_items}

-- ---- hexadecimal digits

-- a digit tells its value
digit_told : (c d : ℕ) → c < 16 → d < 16 → slice_index lower_digits c ≡ slice_index lower_digits d → c ≡ d
digit_told c d hc hd e =
    let same : Some c ≡ Some d = sym (IsDigits-lower_digits c hc) ∙ ap hex_digit_value e ∙ IsDigits-lower_digits d hd in
    cc

-- no digit is a quotation mark
digit_no_quote : (c : ℕ) → c < 16 → slice_index lower_digits c ≡ 34 → ⊥
digit_no_quote c hc e =
    let same : Some c ≡ None = sym (IsDigits-lower_digits c hc) ∙ ap hex_digit_value e in
    cc

-- a byte by its two digits
byte_told : (b c : ℕ) → b < 256 → c < 256 → slice_index lower_digits (b / 16) ≡ slice_index lower_digits (c / 16) → slice_index lower_digits (b % 16) ≡ slice_index lower_digits (c % 16) → b ≡ c
byte_told b c hb hc high low =
    let h : b / 16 ≡ c / 16 = digit_told (b / 16) (c / 16) (omega arith) (omega arith) high in
    let l : b % 16 ≡ c % 16 = digit_told (b % 16) (c % 16) (omega arith) (omega arith) low in
    omega arith

hex_told : (xs ys s t : List ℕ) → AreStoredBytes xs → AreStoredBytes ys → encode_lower xs ++ 34 ∷ s ≡ encode_lower ys ++ 34 ∷ t → (xs ≡ ys) × (s ≡ t)
unfolding encode_with
hex_told [] [] s t hx hy e = (refl, cc)
hex_told [] (c ∷ ys) s t hx hy e =
    let first : 34 ≡ slice_index lower_digits (c / 16) = cc in
    absurd (digit_no_quote (c / 16) (let h = hy.0 in omega arith) (sym first))
hex_told (b ∷ xs) [] s t hx hy e =
    let first : slice_index lower_digits (b / 16) ≡ 34 = cc in
    absurd (digit_no_quote (b / 16) (let h = hx.0 in omega arith) first)
hex_told (b ∷ xs) (c ∷ ys) s t hx hy e =
    let high : slice_index lower_digits (b / 16) ≡ slice_index lower_digits (c / 16) = cc in
    let low : slice_index lower_digits (b % 16) ≡ slice_index lower_digits (c % 16) = cc in
    let rest : encode_lower xs ++ 34 ∷ s ≡ encode_lower ys ++ 34 ∷ t = cc in
    let same = byte_told b c hx.0 hy.0 high low in
    let more = hex_told xs ys s t hx.1 hy.1 rest in
    (λ i. same i ∷ more.0 i, more.1)

pub tell_hex : TellsAll Anything AreStoredBytes hex_text
tell_hex = record {
  tell = λ x y s t fs ft hx hy e.
      let inner : encode_lower x ++ 34 ∷ s ≡ encode_lower y ++ 34 ∷ t =
      sym (append_assoc (encode_lower x) (34 ∷ []) s) ∙ ap (drop 1) e ∙ append_assoc (encode_lower y) (34 ∷ []) t in
      hex_told x y s t hx hy inner;
}

-- ---- escaped bytes

abbrev is_escaped : ℕ → Bool
is_escaped byte = ltb byte 32 || (eqb byte 34 || (eqb byte 92 || ltb 126 byte))

abbrev by_number : ℕ → List ℕ
by_number byte = 92 ∷ 117 ∷ 48 ∷ 48 ∷ slice_index lower_digits (byte / 16) ∷ slice_index lower_digits (byte % 16) ∷ []

escaped_by_number : (b : ℕ) → is_escaped b ≡ true → escaped b ≡ by_number b
unfolding encode_with
escaped_by_number b h = rw h refl

escaped_itself : (b : ℕ) → is_escaped b ≡ false → escaped b ≡ b ∷ []
unfolding encode_with
escaped_itself b h = rw h refl

no_mark : (b : ℕ) → is_escaped b ≡ false → (b ≡ 34 → ⊥) × (b ≡ 92 → ⊥)
no_mark b h =
    let p = or_parts _ _ h in
    let q = or_parts _ _ p.1 in
    let r = or_parts _ _ q.1 in
    (eqb-false b 34 q.0, eqb-false b 92 r.0)

tell_escaped : TellsAll Anything IsStoredByte escaped
tell_escaped = record {
  tell = λ b c s t fs ft hb hc e.
      elim (cases_Bool (is_escaped b)) [
        | inl p ↦ elim (cases_Bool (is_escaped c)) [
          | inl q ↦
              let e2 : by_number b ++ s ≡ by_number c ++ t = rw (escaped_by_number b p, escaped_by_number c q) at e in
              let high : slice_index lower_digits (b / 16) ≡ slice_index lower_digits (c / 16) = cc (e2) in
              let low : slice_index lower_digits (b % 16) ≡ slice_index lower_digits (c % 16) = cc (e2) in
              let rest : s ≡ t = cc (e2) in
              (byte_told b c hb hc high low, rest)
          | inr q ↦
              let e2 : by_number b ++ s ≡ c ∷ t = rw (escaped_by_number b p, escaped_itself c q) at e in
              let mark : c ≡ 92 = cc (e2) in
              absurd ((no_mark c q).1 mark)
        ]
        | inr p ↦ elim (cases_Bool (is_escaped c)) [
          | inl q ↦
              let e2 : b ∷ s ≡ by_number c ++ t = rw (escaped_itself b p, escaped_by_number c q) at e in
              let mark : b ≡ 92 = cc (e2) in
              absurd ((no_mark b p).1 mark)
          | inr q ↦
              let e2 : b ∷ s ≡ c ∷ t = rw (escaped_itself b p, escaped_itself c q) at e in
              let same : b ≡ c = cc (e2) in
              let rest : s ≡ t = cc (e2) in
              (same, rest)
        ]
      ];
}

-- the text goes on with a quotation mark
abbrev IsQuote : List ℕ → Type 0
IsQuote [] = ⊥
IsQuote (c ∷ s) = c ≡ 34

escaped_no_quote : (b : ℕ) (s t : List ℕ) → IsStoredByte b → IsQuote t → escaped b ++ s ≡ t → ⊥
escaped_no_quote b s [] h q e = q
escaped_no_quote b s (c ∷ t) h q e = elim (cases_Bool (is_escaped b)) [
  | inl p ↦
      let e2 : by_number b ++ s ≡ c ∷ t = rw (escaped_by_number b p) at e in
      let mark : 92 ≡ c = cc (e2) in
      let quote : c ≡ 34 = q in
      omega arith
  | inr p ↦
      let e2 : b ∷ s ≡ c ∷ t = rw (escaped_itself b p) at e in
      let same : b ≡ c = cc (e2) in
      absurd ((no_mark b p).0 (same ∙ q))
]

pub tell_quoted : TellsAll Anything AreStoredBytes quoted
tell_quoted = record {
  tell = λ x y s t fs ft hx hy e.
      let inner : flat_map escaped x ++ 34 ∷ s ≡ flat_map escaped y ++ 34 ∷ t =
      sym (append_assoc (flat_map escaped x) (34 ∷ []) s) ∙ ap (drop 1) e ∙ append_assoc (flat_map escaped y) (34 ∷ []) t in
      let both = tell_items Anything IsQuote IsStoredByte escaped (λ b. b) tell_escaped escaped_no_quote (λ s h. tt) (λ b s h. tt) x y (34 ∷ s) (34 ∷ t) hx hy refl refl inner in
      let rest : s ≡ t = ap (drop 1) both.1 in
      (sym (map-id x) ∙ both.0 ∙ map-id y, rest);
}
