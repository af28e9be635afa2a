-- When a score was below a bound, over the moments of a run.
use Rattle.std.specs.Prelude.{ℤ, int_lt, Bool, true, false, List, [], ◌∷◌, filter, map, Option, Some, None}
use Rattle.std.specs.List.{last_or}
use Rattle.gs_snapshots.specs.declared.courses.Course.{Course}
use Rattle.gs_snapshots.specs.declared.courses.Crossing.{Crossing}
use Rattle.gs_snapshots.specs.declared.snapshot.Snapshot.{Snapshot}

abbrev pub is_below : ℤ → Snapshot → Bool
is_below bound s = int_lt s.parts.score bound

-- the score was below the bound at the moment before, if there is one
abbrev pub was_below : ℤ → Option Snapshot → Bool
was_below bound None = false
was_below bound (Some s) = is_below bound s

-- each element of a list with the one before it, if there is one
abbrev pub with_before : {A : Type 0} → Option A → List A → List (Option A × A)
with_before before [] = []
with_before before (x ∷ xs) = (before, x) ∷ with_before (Some x) xs

abbrev pub differ : Bool → Bool → Bool
differ true true = false
differ true false = true
differ false true = true
differ false false = false

-- the score is on the other side of the bound than at the moment before
abbrev pub is_crossing : ℤ → Option Snapshot × Snapshot → Bool
is_crossing bound x = differ (was_below bound x.0) (is_below bound x.1)

abbrev pub crossing_of : ℤ → Option Snapshot × Snapshot → Crossing
crossing_of bound x = record { at = x.1.moment.at; is_below = is_below bound x.1 }

-- the moments at which the score of a neighbour crossed the bound, from its snapshots, the oldest first
abbrev pub crossings : ℤ → List Snapshot → List Crossing
crossings bound ss = map (crossing_of bound) (filter (is_crossing bound) (with_before None ss))

abbrev pub course_of : ℤ → List Snapshot → Course
course_of bound ss = record { is_below = was_below bound (last_or None ss); crossings = crossings bound ss }
