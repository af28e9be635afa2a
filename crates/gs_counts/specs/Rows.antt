-- Rows of tables: each number is the sum of the amounts of its kind among the happenings that stand in the row.
use Rattle.std.specs.Prelude.{ℕ, ◌+◌, min, Bool, List, [], filter, map, None, Some, slice_get, slice_set, unwrap_or}
use Rattle.std.specs.List.{sum_by}
use Rattle.gs_counts.specs.declared.counts.Counts.{Counts}
use Rattle.gs_counts.specs.declared.happening.Happening.{Happening}
use Rattle.gs_counts.specs.declared.kind.Kind.{Kind}
use Rattle.gs_counts.specs.Kinds.{all_kinds, place_of, same_kind}

-- the greatest number that is given
abbrev pub most_told : ℕ
most_told = 18_446_744_073_709_551_615

-- a sum, at most the greatest number that is given
abbrev pub plus : ℕ → ℕ → ℕ
plus x y = min (x + y) most_told

-- ---- rows

-- how much these happenings are in all
abbrev pub amount_of : List Happening → ℕ
amount_of hs = sum_by (λ h. h.amount) hs

-- how often a kind happened, or how much of it
abbrev pub amount_in : List Happening → Kind → ℕ
amount_in hs kind = amount_of (filter (λ h. same_kind h.kind kind) hs)

-- the same, at most the greatest number that is given
abbrev pub total : List Happening → Kind → ℕ
total hs kind = min (amount_in hs kind) most_told

-- a row of these happenings, kind by kind
abbrev pub row_of : List Happening → Counts
row_of hs = record { amounts = map (total hs) all_kinds }

-- the row of the happenings among these that stand in it
abbrev pub row_where : (Happening → Bool) → List Happening → Counts
row_where stands hs = row_of (filter stands hs)

-- ---- numbers of a row

abbrev pub number_at : List ℕ → ℕ → ℕ
number_at amounts place = unwrap_or (slice_get amounts place) 0

abbrev pub count_at : Counts → Kind → ℕ
count_at counts kind = number_at counts.amounts (place_of kind)

-- the sum of two rows, number by number
abbrev pub with_counts : Counts → Counts → Counts
with_counts counts others = record { amounts = map (λ kind. plus (count_at counts kind) (count_at others kind)) all_kinds }

-- the row in which nothing happened
abbrev pub no_counts : Counts
no_counts = row_of []

-- a list with the element at a place changed, if there is one
abbrev pub changed_at : {A : Type 0} → (A → A) → List A → ℕ → List A
changed_at change xs place = elim (slice_get xs place) [ None ↦ xs | Some x ↦ slice_set xs place (change x) ]

-- a row with an amount added at a place
abbrev pub counted_at : Counts → ℕ → ℕ → Counts
counted_at counts place amount = record { amounts = changed_at (λ number. plus number amount) counts.amounts place }

-- a row with an amount added to a kind
abbrev pub counted : Counts → Kind → ℕ → Counts
counted counts kind amount = counted_at counts (place_of kind) amount
