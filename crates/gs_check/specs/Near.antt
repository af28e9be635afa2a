-- Known keys that are near an unknown one.
use Rattle.std.specs.Prelude.{◌≡◌, ◌≤◌, ◌<◌, ℕ, ◌/◌, ◌^◌, ◌-◌, ◌++◌, ◌∷◌, ◌&&◌, Bool, true, false, max, nat_le, List, length, Option, Some, None}
use Rattle.std.specs.List.{All}
use Rattle.std.specs.Str.{chars}
use Rattle.strsim.specs.Edits.{osa_table}

-- How many edits lead from one key to another. An edit inserts a character, deletes one, changes one, or swaps two adjacent
-- ones.
abbrev pub edits : List ℕ → List ℕ → ℕ
edits key other = (osa_table (chars key) (chars other)).last_row (length (chars other))

-- a key of at most 40 bytes is near another where the edits are at most a third of the bytes of the longer one
abbrev pub is_near : List ℕ → List ℕ → Bool
is_near key other = nat_le (length key) 40 && nat_le (edits key other) (max (length key) (length other) / 3)

-- The name is near and known. Each near one that stands before it takes more edits. Each near one that stands after it takes
-- no fewer.
pub record IsNearest (key : List ℕ) (known : List (List ℕ)) (name : List ℕ) : Type 0 where
  pub before : List (List ℕ)
  pub after : List (List ℕ)
  pub stands : known ≡ before ++ (name ∷ after)
  pub near : is_near key name ≡ true
  pub first : All (λ other. is_near key other ≡ true → edits key name < edits key other) before
  pub fewest : All (λ other. is_near key other ≡ true → edits key name ≤ edits key other) after

-- the nearest known key, and none where none is near
abbrev pub IsNearestOf : List ℕ → List (List ℕ) → Option (List ℕ) → Type 0
IsNearestOf key known (Some name) = IsNearest key known name
IsNearestOf key known None = All (λ other. is_near key other ≡ false) known

-- of those that were looked at: the nearest one, and how many edits lead to it. Where none is near, the number is 2^64 - 1.
abbrev pub IsNearestSoFar : List ℕ → List (List ℕ) → Option (List ℕ) → ℕ → Type 0
IsNearestSoFar key seen None fewest = All (λ other. is_near key other ≡ false) seen × (fewest ≡ 2 ^ 64 - 1)
IsNearestSoFar key seen (Some name) fewest = IsNearest key seen name × (fewest ≡ edits key name)
