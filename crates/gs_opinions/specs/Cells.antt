-- Values by number.
use Rattle.std.specs.Prelude.{ℕ, List, map, None, Option, Some, slice_get, slice_set, unwrap_or}
use Rattle.std.specs.List.{range_with_len}

-- what a function gives each number below a count
abbrev pub by_number : {A : Type 0} → (ℕ → A) → ℕ → List A
by_number f count = map f (range_with_len 0 count)

-- what stands at a place, or nothing
abbrev pub cell_at : {A : Type 0} → List (Option A) → ℕ → Option A
cell_at cells place = unwrap_or (slice_get cells place) None

-- what stands at a place after a change, if something stands there
abbrev pub changed_at : {A : Type 0} → (A → A) → List A → ℕ → List A
changed_at change xs place = elim (slice_get xs place) [ None ↦ xs | Some x ↦ slice_set xs place (change x) ]
