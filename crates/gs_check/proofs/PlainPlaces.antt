-- A place without control characters.
use Rattle.std.proofs.Common.{◌≡◌, ◌∙◌, ◌&&◌, ◌++◌, ℕ, Bool, true, false, not, List, [], ◌∷◌, refl, sym, ap, true≢false}
use Rattle.std.specs.Prelude.{codes, if◌then◌else◌}
use Rattle.std.specs.List.{list_all}
use Rattle.hex.specs.Hex.{encode_lower}
use Rattle.gs_check.specs.FirstLine.{is_control, is_plain, shown, shown_byte}

both_of : (a b : Bool) → (a && b) ≡ true → (a ≡ true) × (b ≡ true)
both_of true b h = (refl, h)
both_of false b h = absurd (true≢false (sym h))

-- one of two lists, by a test that does not hold
unless : (b : Bool) (xs ys : List ℕ) → not b ≡ true → (if b then xs else ys) ≡ ys
unless false xs ys h = refl
unless true xs ys h = absurd (true≢false (sym h))

pub shown_byte-plain : (byte : ℕ) → is_plain byte ≡ true → shown_byte byte ≡ byte ∷ []
shown_byte-plain byte plain = unless (is_control byte) (codes "\\x" ++ encode_lower (byte ∷ [])) (byte ∷ []) plain

pub shown-plain : (text : List ℕ) → list_all is_plain text ≡ true → shown text ≡ text
shown-plain [] plain = refl
shown-plain (byte ∷ bytes) plain =
    let (one, rest) = both_of (is_plain byte) (list_all is_plain bytes) plain in
    ap (λ (front : List ℕ). front ++ shown bytes) (shown_byte-plain byte one) ∙ ap (λ (behind : List ℕ). byte ∷ behind) (shown-plain bytes rest)
