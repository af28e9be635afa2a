-- Whether there is anything in a text.
use Rattle.std.proofs.Common.{◌≡◌, ◌||◌, ℕ, Bool, true, false, List, [], ◌∷◌, ◌++◌, Option, length, take, zero, suc, refl, sym, ap, subst, ◌∙◌, append-nil, arith, length-append}
use Rattle.std.specs.Prelude.{nat_lt}
use Rattle.std.specs.Io.KnownBytes.{Appends}
use Rattle.gs_streams.specs.Streams.{AppendsFront}
use Rattle.gs_snapshots.specs.Summing.{is_text, line_unless}
use Rattle.gs_snapshots.specs.SummaryText.{or_nothing}

pub in_either : (xs ys : List ℕ) → (is_text xs || is_text ys) ≡ is_text (xs ++ ys)
in_either [] ys = refl
in_either (x ∷ xs) ys = refl

-- what was added to a text is there where the text is longer
pub is_longer : (xs ys : List ℕ) → nat_lt (length xs) (length (xs ++ ys)) ≡ is_text ys
is_longer xs [] = grind (arith, append-nil xs, length-append)
is_longer xs (y ∷ ys) = grind (arith, length-append)

-- a text, or the line that says that there is none
pub with_line : (text : List ℕ) → text ++ line_unless (is_text text) ≡ or_nothing text
with_line [] = refl
with_line (x ∷ text) = append-nil (x ∷ text)

nothing_taken : (n : ℕ) → ◌≡◌ {A = List ℕ} (take n []) []
nothing_taken zero = refl
nothing_taken (suc n) = refl

-- a front of a text is one of that
pub front_said : (output output' : Option (List ℕ)) (text : List ℕ) → AppendsFront output output' text → AppendsFront output output' (or_nothing text)
front_said output output' [] (n, appended) = (0, subst (Appends output output') (nothing_taken n) appended)
front_said output output' (x ∷ text) front = front
