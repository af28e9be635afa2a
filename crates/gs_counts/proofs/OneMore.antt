-- One more happening: what a row is then.
use Rattle.std.proofs.Common.{◌≡◌, ℕ, ◌+◌, min, Bool, true, false, nat_eq, if◌then◌else◌, List, [], ◌∷◌, ◌++◌, filter, map, refl, sym, ap, ◌∙◌, arith, append-nil}
use Rattle.std.specs.List.{range_with_len}
use Rattle.std.proofs.lemmas.List.Elements.{filter-append}
use Rattle.std.proofs.lemmas.List.Sums.{sum_by_push}
use Rattle.gs_counts.specs.declared.happening.Happening.{Happening}
use Rattle.gs_counts.specs.Kinds.{all_kinds, place_of}
use Rattle.gs_counts.specs.Rows.{amount_of, changed_at, counted, most_told, plus, row_of, row_where, total}
use Rattle.gs_counts.proofs.Places.{changed}

-- a sum that stands for all greater ones stays that
pub plus_told : (a b : ℕ) → plus (min a most_told) b ≡ min (a + b) most_told
plus_told a b = omega arith

-- ---- one number

abbrev is_at_place : ℕ → Happening → Bool
is_at_place n h = nat_eq (place_of h.kind) n

-- the sum of those whose kind has a place
abbrev pub total_at : List Happening → ℕ → ℕ
total_at hs n = min (amount_of (filter (is_at_place n) hs)) most_told

total_if : (hs : List Happening) (h : Happening) (n : ℕ) (b : Bool) → is_at_place n h ≡ b → total_at (hs ++ h ∷ []) n ≡ (if b then plus (total_at hs n) h.amount else total_at hs n)
total_if hs h n b is =
    ap (λ (xs : List Happening). min (amount_of xs) most_told) (filter-append (is_at_place n) hs (h ∷ []))
    ∙ ap (λ (c : Bool). min (amount_of (filter (is_at_place n) hs ++ (if c then h ∷ [] else []))) most_told) is
    ∙ by b
  where
    so_far : List Happening
    so_far = filter (is_at_place n) hs

    by : (c : Bool) → min (amount_of (so_far ++ (if c then h ∷ [] else []))) most_told ≡ (if c then plus (total_at hs n) h.amount else total_at hs n)
    by true = ap (λ (k : ℕ). min k most_told) (sum_by_push (λ (x : Happening). x.amount) so_far h) ∙ sym (plus_told (amount_of so_far) h.amount)
    by false = ap (λ (xs : List Happening). min (amount_of xs) most_told) (append-nil so_far)

-- ---- a row

-- the numbers of a row by their places
by_place : (hs : List Happening) → map (total hs) all_kinds ≡ map (total_at hs) (range_with_len 0 51)
unfolding all_kinds
by_place hs = refl

pub row_more : (hs : List Happening) (h : Happening) → row_of (hs ++ h ∷ []) ≡ counted (row_of hs) h.kind h.amount
row_more hs h =
    ap (λ (ns : List ℕ). record { amounts = ns })
    (by_place (hs ++ h ∷ [])
    ∙ sym (changed (λ n. plus n h.amount) (total_at hs) (total_at (hs ++ h ∷ [])) (place_of h.kind) (λ n. total_if hs h n true) (λ n. total_if hs h n false) 51)
    ∙ ap (λ (ns : List ℕ). changed_at (λ n. plus n h.amount) ns (place_of h.kind)) (sym (by_place hs)))

-- a row in which it stands, or does not
pub row_if : (stands : Happening → Bool) (hs : List Happening) (h : Happening) (b : Bool) → stands h ≡ b → row_where stands (hs ++ h ∷ []) ≡ (if b then counted (row_where stands hs) h.kind h.amount else row_where stands hs)
row_if stands hs h b is =
    ap row_of (filter-append stands hs (h ∷ []))
    ∙ ap (λ (c : Bool). row_of (filter stands hs ++ (if c then h ∷ [] else []))) is
    ∙ by b
  where
    by : (c : Bool) → row_of (filter stands hs ++ (if c then h ∷ [] else [])) ≡ (if c then counted (row_where stands hs) h.kind h.amount else row_where stands hs)
    by true = row_more (filter stands hs) h
    by false = ap row_of (append-nil (filter stands hs))
