-- Lists that are changed one element after the other.
use Rattle.std.proofs.Common.{◌≡◌, ◌<◌, ◌≤◌, ◌+◌, ℕ, List, [], ◌∷◌, ◌++◌, length, map, take, drop, get_or, set, sym, ap, ◌∙◌, append_assoc, append-nil, arith}
use Rattle.std.proofs.lemmas.List.{set_at, get_or_at, map-append, length-map, length-take-le, drop_more, take_more, take_all, take_at, drop_all}

-- an element that was not reached is as it was
pub mapped_is : {A : Type 0} (f : A → A) (xs ys : List A) (n : ℕ) (d : A) → n < length xs → ys ≡ map f (take n xs) ++ drop n xs → get_or ys n d ≡ get_or xs n d
mapped_is f xs ys n d low is =
    ap (λ zs. get_or zs n d) (is ∙ ap (λ zs. map f (take n xs) ++ zs) (drop_more xs n d low))
    ∙ get_or_at (map f (take n xs)) (get_or xs n d) (drop (n + 1) xs) d n (length-map (take n xs) f ∙ length-take-le n xs (omega (arith, low)))

-- one more is changed
pub mapped_more : {A : Type 0} (f : A → A) (xs ys : List A) (n : ℕ) (d : A) → n < length xs → ys ≡ map f (take n xs) ++ drop n xs → set ys n (f (get_or ys n d)) ≡ map f (take (n + 1) xs) ++ drop (n + 1) xs
mapped_more f xs ys n d low is =
    let x = get_or xs n d in
    ap (λ y. set ys n (f y)) (mapped_is f xs ys n d low is)
    ∙ ap (λ zs. set zs n (f x)) (is ∙ ap (λ zs. map f (take n xs) ++ zs) (drop_more xs n d low))
    ∙ set_at (map f (take n xs)) x (drop (n + 1) xs) (f x) n (length-map (take n xs) f ∙ length-take-le n xs (omega (arith, low)))
    ∙ sym (append_assoc (map f (take n xs)) (f x ∷ []) (drop (n + 1) xs))
    ∙ ap (λ zs. zs ++ drop (n + 1) xs) (sym (map-append f (take n xs) (x ∷ [])) ∙ ap (map f) (sym (take_more xs n d low)))

-- all are
pub mapped_all : {A : Type 0} (f : A → A) (xs ys : List A) (n : ℕ) → length xs ≤ n → ys ≡ map f (take n xs) ++ drop n xs → ys ≡ map f xs
mapped_all f xs ys n end is =
    is ∙ ap (λ zs. map f zs ++ drop n xs) (take_all n xs end) ∙ ap (λ zs. map f xs ++ zs) (drop_all n xs end) ∙ append-nil (map f xs)

-- What a list is after it was lent as a slice: what the slice is then.
pub lent : {A : Type 0} (count : ℕ) (new old : List A) → length new ≡ count → take count (new ++ drop (length new) old) ≡ new
lent count new old long = take_at new (drop (length new) old) count long
