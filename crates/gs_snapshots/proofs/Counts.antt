-- Counts on a line, one after the other.
use Rattle.std.proofs.Common.{◌≡◌, ◌<◌, ℕ, Bool, true, false, if◌then◌else◌, List, [], ◌∷◌, ◌++◌, flat_map, refl, sym, ap, ◌∙◌, append_assoc, append-nil}
use Rattle.std.specs.Prelude.{codes, decimal, filter}
use Rattle.std.proofs.lemmas.List.Elements.{filter-append}
use Rattle.std.proofs.lemmas.Grind.{flat_map-append}
use Rattle.gs_snapshots.specs.SummaryText.{Count, comma_after, comma_and, count_text, is_any, joined}

-- a text with a blank in it is not empty
after_blank : (front word more : List ℕ) → comma_after ((front ++ codes " " ++ word) ++ more) ≡ codes ", "
after_blank [] word more = refl
after_blank (byte ∷ front) word more = refl

joined_more : (xs : List Count) (x : Count) → joined xs ++ (comma_after (joined xs) ++ count_text x) ≡ joined (xs ++ x ∷ [])
joined_more [] x = sym (append-nil (count_text x))
joined_more (y ∷ ys) x =
    let all = count_text y ++ flat_map comma_and ys in
    ap (λ (comma : List ℕ). all ++ (comma ++ count_text x)) (after_blank (decimal y.number) y.word (flat_map comma_and ys))
    ∙ append_assoc (count_text y) (flat_map comma_and ys) (codes ", " ++ count_text x)
    ∙ ap (λ (more : List ℕ). count_text y ++ more) (
    ap (λ (last : List ℕ). flat_map comma_and ys ++ last) (sym (append-nil (comma_and x)))
    ∙ sym (flat_map-append comma_and ys (x ∷ []))
    )

-- a count more, which is not 0
pub count_more : (xs : List Count) (x : Count) → is_any x ≡ true
    → joined (filter is_any xs) ++ (comma_after (joined (filter is_any xs)) ++ count_text x) ≡ joined (filter is_any (xs ++ x ∷ []))
count_more xs x is =
    joined_more (filter is_any xs) x
    ∙ ap joined (ap (λ (b : Bool). filter is_any xs ++ (if b then x ∷ [] else [])) (sym is) ∙ sym (filter-append is_any xs (x ∷ [])))

-- one that is 0
pub count_none : (xs : List Count) (x : Count) → is_any x ≡ false → joined (filter is_any xs) ≡ joined (filter is_any (xs ++ x ∷ []))
count_none xs x is =
    ap joined (
    sym (append-nil (filter is_any xs))
    ∙ ap (λ (b : Bool). filter is_any xs ++ (if b then x ∷ [] else [])) (sym is)
    ∙ sym (filter-append is_any xs (x ∷ []))
    )
