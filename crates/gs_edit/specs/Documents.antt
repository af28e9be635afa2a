-- What a document holds with a key set.
use Rattle.std.specs.Prelude.{◌≡◌, ◌≢◌, ◌⊎◌, ℕ, false, zero, suc, List, [], ◌∷◌, Option, Some, None, option_map, option_and_then, if◌then◌else◌}
use Rattle.std.specs.Ordering.{nat_cmp, match_ordering}
use Rattle.std.specs.Cmp.Lexicographic.{slice_cmp}
use Rattle.toml.specs.Data.{Data, array, table, Items, no_items, item, Members, no_members, member, same_key, get_member, get_item}
use Rattle.gs_edit.specs.Keys.{number_of}

-- ---- one place

-- the members with another value at a key that they have
abbrev pub replace_member : List ℕ → Data → Members → Members
replace_member key value no_members = no_members
replace_member key value (member other held ms) =
    if same_key key other then member other value ms else member other held (replace_member key value ms)

-- the members with a new key, at its place in the order
abbrev pub insert_member : List ℕ → Data → Members → Members
insert_member key value no_members = member key value no_members
insert_member key value (member other held ms) =
    match_ordering (slice_cmp nat_cmp key other)
    (member key value (member other held ms))
    (member other value ms)
    (member other held (insert_member key value ms))

-- the items with another value at an index that they have
abbrev pub replace_item : ℕ → Data → Items → Items
replace_item n value no_items = no_items
replace_item zero value (item held ds) = item value ds
replace_item (suc n) value (item held ds) = item held (replace_item n value ds)

-- ---- a path

-- a change of what a place holds, which may be impossible
abbrev pub Change : Type 0
Change = Data → Option Data

-- The change at a key. A key that is not there gets what the change makes of an empty table.
abbrev pub changed_at : List ℕ → Change → Members → Option Data → Option Members
changed_at key change ms None = option_map (λ value. insert_member key value ms) (change (table no_members))
changed_at key change ms (Some held) = option_map (λ value. replace_member key value ms) (change held)

unfoldable pub changed_member : List ℕ → Change → Members → Option Members
changed_member key change ms = changed_at key change ms (get_member key ms)

-- The change at the item with this number. It is impossible where there is no such item.
abbrev pub changed_in : ℕ → Change → Items → Option Data → Option Items
changed_in n change ds None = None
changed_in n change ds (Some held) = option_map (λ value. replace_item n value ds) (change held)

abbrev pub changed_numbered : Option ℕ → Change → Items → Option Items
changed_numbered None change ds = None
changed_numbered (Some n) change ds = changed_in n change ds (get_item n ds)

unfoldable pub changed_item : List ℕ → Change → Items → Option Items
changed_item part change ds = changed_numbered (number_of part) change ds

-- the change in a table at a key, or in a list at a number; in anything else it is impossible
abbrev pub changed_inside : List ℕ → Change → Data → Option Data
changed_inside part change (table ms) = option_map table (changed_member part change ms)
changed_inside part change (array ds) = option_map array (changed_item part change ds)
changed_inside part change _ = None

-- what a place holds with a value set at the end of a path below it
unfoldable pub with_path : List (List ℕ) → Data → Data → Option Data
with_path [] value held = Some value
with_path (part ∷ path) value held = changed_inside part (with_path path value) held

-- The members with a value set at the end of a path. A table that the path goes through is made where it is absent; the
-- result is None where the path goes through what is neither a table nor an item of a list, and for the empty path.
unfoldable pub with_key : List (List ℕ) → Data → Members → Option Members
with_key [] value ms = None
with_key (part ∷ path) value ms = changed_member part (with_path path value) ms

-- the items with a value set at the end of a path; the first part of the path numbers one of them
unfoldable pub with_item : List (List ℕ) → Data → Items → Option Items
with_item [] value ds = None
with_item (part ∷ path) value ds = changed_item part (with_path path value) ds

-- ---- what is held

-- what a table holds at a key, or a list at a number
abbrev pub inside : List ℕ → Data → Option Data
inside part (table ms) = get_member part ms
inside part (array ds) = option_and_then (λ n. get_item n ds) (number_of part)
inside part _ = None

-- what is held at the end of a path below a place
unfoldable pub held_at : List (List ℕ) → Data → Option Data
held_at [] held = Some held
held_at (part ∷ path) held = option_and_then (held_at path) (inside part held)

-- ---- paths that part

-- two keys of one table, or two numbers of one list, that differ
abbrev pub IsApart : List ℕ → List ℕ → Type 0
IsApart part other = (same_key other part ≡ false) × ((n : ℕ) → number_of part ≡ Some n → number_of other ≢ Some n)

-- somewhere along both paths their parts differ
abbrev pub PartWays : List (List ℕ) → List (List ℕ) → Type 0
PartWays (part ∷ path) (other ∷ others) = IsApart part other ⊎ ((part ≡ other) × PartWays path others)
PartWays _ _ = ⊥

-- ---- laws

-- at the path of the set key, a document holds the value
abbrev pub IsHeldWhereSet : Type 0
IsHeldWhereSet =
    (path : List (List ℕ)) (value : Data) (before after : Members)
    → with_key path value before ≡ Some after
    → held_at path (table after) ≡ Some value

-- at another path, which parts from that of the set key, a document holds what it held before
abbrev pub StaysElsewhere : Type 0
StaysElsewhere =
    (path others : List (List ℕ)) (value : Data) (before after : Members)
    → PartWays path others
    → with_key path value before ≡ Some after
    → held_at others (table after) ≡ held_at others (table before)
