-- What is held where a value was set, and elsewhere.
use Rattle.std.proofs.Common.{◌≡◌, ◌≢◌, ◌∙◌, ℕ, zero, suc, false, List, [], ◌∷◌, Option, Some, None, option_map, Ordering, Less, Equal, Greater, nat_cmp, is_eq, refl, sym, ap, inl, inr}
use Rattle.std.proofs.lemmas.Bool.{cases_Bool, false≢true}
use Rattle.std.proofs.lemmas.Cmp.{nat_list_cmp_total}
use Rattle.std.proofs.lemmas.Option.{none-some, same_Some}
use Rattle.std.specs.Cmp.{Equal-is, alike_right, tied_itself}
use Rattle.std.specs.Cmp.Lexicographic.{slice_cmp}
use Rattle.std.specs.Ordering.{match_ordering}
use Rattle.std.specs.Prelude.{option_and_then}
use Rattle.toml.specs.Data.{Data, string, integer, float, boolean, datetime, array, table, Items, no_items, item, Members, no_members, member, same_key, get_item, get_member}
use Rattle.gs_edit.specs.Keys.{number_of}
use Rattle.gs_edit.specs.Documents.{Change, IsApart, PartWays, changed_at, changed_in, changed_inside, changed_item, changed_member, changed_numbered, held_at, insert_member, inside, replace_item, replace_member, with_key, with_path}

-- ---- members

skip : (o : Ordering) (behind : Option Data) (here : Data) → is_eq o ≡ false → match_ordering o behind (Some here) behind ≡ behind
skip Less behind here other = refl
skip Equal behind here other = absurd (false≢true (sym other))
skip Greater behind here other = refl

insert_same : (o : Ordering) (key other : List ℕ) (value held : Data) (ms : Members) → o ≡ slice_cmp nat_cmp key other
    → get_member key (insert_member key value ms) ≡ Some value
    → get_member key (match_ordering o (member key value (member other held ms)) (member other value ms) (member other held (insert_member key value ms))) ≡ Some value
insert_same Less key other value held ms is ih = rw (tied_itself nat_list_cmp_total key) refl
insert_same Equal key other value held ms is ih = rw (← is) refl
insert_same Greater key other value held ms is ih = rw (← is) ih

pub get_member-insert_same : (key : List ℕ) (value : Data) (ms : Members) → get_member key (insert_member key value ms) ≡ Some value
get_member-insert_same key value no_members = rw (tied_itself nat_list_cmp_total key) refl
get_member-insert_same key value (member other held ms) = insert_same (slice_cmp nat_cmp key other) key other value held ms refl (get_member-insert_same key value ms)

insert_other : (o : Ordering) (key other looked : List ℕ) (value held : Data) (ms : Members) → o ≡ slice_cmp nat_cmp key other → is_eq (slice_cmp nat_cmp looked key) ≡ false
    → get_member looked (insert_member key value ms) ≡ get_member looked ms
    → get_member looked (match_ordering o (member key value (member other held ms)) (member other value ms) (member other held (insert_member key value ms))) ≡ get_member looked (member other held ms)
insert_other Less key other looked value held ms is apart ih = skip (slice_cmp nat_cmp looked key) (get_member looked (member other held ms)) value apart
insert_other Equal key other looked value held ms is apart ih =
    let alike : slice_cmp nat_cmp looked key ≡ slice_cmp nat_cmp looked other = alike_right nat_list_cmp_total key other looked (sym is) in
    let past : is_eq (slice_cmp nat_cmp looked other) ≡ false = ap is_eq (sym alike) ∙ apart in
    skip (slice_cmp nat_cmp looked other) (get_member looked ms) value past ∙ sym (skip (slice_cmp nat_cmp looked other) (get_member looked ms) held past)
insert_other Greater key other looked value held ms is apart ih = rw ih refl

pub get_member-insert_other : (key looked : List ℕ) (value : Data) (ms : Members) → same_key looked key ≡ false → get_member looked (insert_member key value ms) ≡ get_member looked ms
get_member-insert_other key looked value no_members apart = skip (slice_cmp nat_cmp looked key) None value apart
get_member-insert_other key looked value (member other held ms) apart = insert_other (slice_cmp nat_cmp key other) key other looked value held ms refl apart (get_member-insert_other key looked value ms apart)

pub get_member-replace_same : (key : List ℕ) (value held : Data) (ms : Members) → get_member key ms ≡ Some held → get_member key (replace_member key value ms) ≡ Some value
get_member-replace_same key value held no_members found = absurd (none-some held found)
get_member-replace_same key value held (member other there ms) found =
    elim (cases_Bool (is_eq (slice_cmp nat_cmp key other))) [
      | inl same ↦
          let equal : slice_cmp nat_cmp key other ≡ Equal = (Equal-is (slice_cmp nat_cmp key other)).0 same in
          rw (same, equal) refl
      | inr apart ↦
          let behind = sym (skip (slice_cmp nat_cmp key other) (get_member key ms) there apart) ∙ found in
          rw apart (skip (slice_cmp nat_cmp key other) (get_member key (replace_member key value ms)) there apart ∙ get_member-replace_same key value held ms behind)
    ]

pub get_member-replace_other : (key looked : List ℕ) (value : Data) (ms : Members) → same_key looked key ≡ false → get_member looked (replace_member key value ms) ≡ get_member looked ms
get_member-replace_other key looked value no_members apart = refl
get_member-replace_other key looked value (member other there ms) apart =
    elim (cases_Bool (is_eq (slice_cmp nat_cmp key other))) [
      | inl same ↦
          let equal : slice_cmp nat_cmp key other ≡ Equal = (Equal-is (slice_cmp nat_cmp key other)).0 same in
          let alike : slice_cmp nat_cmp looked key ≡ slice_cmp nat_cmp looked other = alike_right nat_list_cmp_total key other looked equal in
          let past : is_eq (slice_cmp nat_cmp looked other) ≡ false = ap is_eq (sym alike) ∙ apart in
          rw same (skip (slice_cmp nat_cmp looked other) (get_member looked ms) value past ∙ sym (skip (slice_cmp nat_cmp looked other) (get_member looked ms) there past))
      | inr differ ↦ rw (differ, get_member-replace_other key looked value ms apart) refl
    ]

-- ---- items

pub get_item-replace_same : (n : ℕ) (value held : Data) (ds : Items) → get_item n ds ≡ Some held → get_item n (replace_item n value ds) ≡ Some value
get_item-replace_same n value held no_items found = absurd (none-some held found)
get_item-replace_same zero value held (item d ds) found = refl
get_item-replace_same (suc n) value held (item d ds) found = get_item-replace_same n value held ds found

pub get_item-replace_other : (n m : ℕ) (value : Data) (ds : Items) → n ≢ m → get_item m (replace_item n value ds) ≡ get_item m ds
get_item-replace_other n m value no_items other = refl
get_item-replace_other zero zero value (item d ds) other = absurd (other refl)
get_item-replace_other zero (suc m) value (item d ds) other = refl
get_item-replace_other (suc n) zero value (item d ds) other = refl
get_item-replace_other (suc n) (suc m) value (item d ds) other = get_item-replace_other n m value ds (λ same. other (ap suc same))

-- ---- the value is there

module _ (part : List ℕ) (path : List (List ℕ)) (value : Data) (ih : (held made : Data) → with_path path value held ≡ Some made → held_at path made ≡ Some value) where
  new_there : (ms : Members) (r : Option Data) → with_path path value (table no_members) ≡ r → (new : Data) → option_map table (option_map (λ made. insert_member part made ms) r) ≡ Some new
      → option_and_then (held_at path) (inside part new) ≡ Some value
  new_there ms None is new set = absurd (none-some new set)
  new_there ms (Some made) is new set =
      let same : table (insert_member part made ms) ≡ new = same_Some _ _ set in
      rw (← same) (rw (get_member-insert_same part made ms) (ih (table no_members) made is))

  found_there : (ms : Members) (held : Data) → get_member part ms ≡ Some held → (r : Option Data) → with_path path value held ≡ r → (new : Data)
      → option_map table (option_map (λ made. replace_member part made ms) r) ≡ Some new → option_and_then (held_at path) (inside part new) ≡ Some value
  found_there ms held found None is new set = absurd (none-some new set)
  found_there ms held found (Some made) is new set =
      let same : table (replace_member part made ms) ≡ new = same_Some _ _ set in
      rw (← same) (rw (get_member-replace_same part made held ms found) (ih held made is))

  member_there : (ms : Members) (o : Option Data) → get_member part ms ≡ o → (new : Data) → option_map table (changed_at part (with_path path value) ms o) ≡ Some new
      → option_and_then (held_at path) (inside part new) ≡ Some value
  member_there ms None is new set = new_there ms (with_path path value (table no_members)) refl new set
  member_there ms (Some held) is new set = found_there ms held is (with_path path value held) refl new set

  item_set : (ds : Items) (n : ℕ) (held : Data) → number_of part ≡ Some n → get_item n ds ≡ Some held → (r : Option Data) → with_path path value held ≡ r → (new : Data)
      → option_map array (option_map (λ made. replace_item n made ds) r) ≡ Some new → option_and_then (held_at path) (inside part new) ≡ Some value
  item_set ds n held number found None is new set = absurd (none-some new set)
  item_set ds n held number found (Some made) is new set =
      let same : array (replace_item n made ds) ≡ new = same_Some _ _ set in
      rw (← same) (rw (number, get_item-replace_same n made held ds found) (ih held made is))

  item_found : (ds : Items) (n : ℕ) → number_of part ≡ Some n → (o : Option Data) → get_item n ds ≡ o → (new : Data)
      → option_map array (changed_in n (with_path path value) ds o) ≡ Some new → option_and_then (held_at path) (inside part new) ≡ Some value
  item_found ds n number None is new set = absurd (none-some new set)
  item_found ds n number (Some held) is new set = item_set ds n held number is (with_path path value held) refl new set

  item_there : (ds : Items) (o : Option ℕ) → number_of part ≡ o → (new : Data) → option_map array (changed_numbered o (with_path path value) ds) ≡ Some new
      → option_and_then (held_at path) (inside part new) ≡ Some value
  item_there ds None is new set = absurd (none-some new set)
  item_there ds (Some n) is new set = item_found ds n is (get_item n ds) refl new set

pub value_there : (path : List (List ℕ)) (value held new : Data) → with_path path value held ≡ Some new → held_at path new ≡ Some value
unfolding with_path held_at changed_member changed_item
value_there [] value held new set = sym set
value_there (part ∷ path) value (table ms) new set = member_there part path value (value_there path value) ms (get_member part ms) refl new set
value_there (part ∷ path) value (array ds) new set = item_there part path value (value_there path value) ds (number_of part) refl new set
value_there (part ∷ path) value (string s) new set = absurd (none-some new set)
value_there (part ∷ path) value (integer z) new set = absurd (none-some new set)
value_there (part ∷ path) value (float x) new set = absurd (none-some new set)
value_there (part ∷ path) value (boolean b) new set = absurd (none-some new set)
value_there (part ∷ path) value (datetime dt) new set = absurd (none-some new set)

-- ---- elsewhere all is as before

module _ (part other : List ℕ) (apart : IsApart part other) where
  apart_members : (ms made : Members) (new : Data) → get_member other made ≡ get_member other ms → table made ≡ new → inside other new ≡ get_member other ms
  apart_members ms made new stays same = rw (← same) stays

  apart_inserted : (ms : Members) (r : Option Data) (new : Data) → option_map table (option_map (λ made. insert_member part made ms) r) ≡ Some new → inside other new ≡ get_member other ms
  apart_inserted ms None new set = absurd (none-some new set)
  apart_inserted ms (Some made) new set = apart_members ms (insert_member part made ms) new (get_member-insert_other part other made ms apart.0) (same_Some _ _ set)

  apart_replaced : (ms : Members) (r : Option Data) (new : Data) → option_map table (option_map (λ made. replace_member part made ms) r) ≡ Some new → inside other new ≡ get_member other ms
  apart_replaced ms None new set = absurd (none-some new set)
  apart_replaced ms (Some made) new set = apart_members ms (replace_member part made ms) new (get_member-replace_other part other made ms apart.0) (same_Some _ _ set)

  apart_member : (change : Change) (ms : Members) (o : Option Data) (new : Data) → option_map table (changed_at part change ms o) ≡ Some new → inside other new ≡ get_member other ms
  apart_member change ms None new set = apart_inserted ms (change (table no_members)) new set
  apart_member change ms (Some held) new set = apart_replaced ms (change held) new set

  -- what stands at another number is as before
  apart_number : (n : ℕ) (made : Data) (ds : Items) (o : Option ℕ) → number_of other ≡ o → number_of part ≡ Some n
      → option_and_then (λ m. get_item m (replace_item n made ds)) o ≡ option_and_then (λ m. get_item m ds) o
  apart_number n made ds None is number = refl
  apart_number n made ds (Some m) is number = get_item-replace_other n m made ds (λ same. apart.1 n number (is ∙ ap (λ k. Some k) (sym same)))

  apart_item_set : (ds : Items) (n : ℕ) → number_of part ≡ Some n → (r : Option Data) (new : Data) → option_map array (option_map (λ made. replace_item n made ds) r) ≡ Some new
      → inside other new ≡ option_and_then (λ m. get_item m ds) (number_of other)
  apart_item_set ds n number None new set = absurd (none-some new set)
  apart_item_set ds n number (Some made) new set =
      let same : array (replace_item n made ds) ≡ new = same_Some _ _ set in
      rw (← same) (apart_number n made ds (number_of other) refl number)

  apart_item_found : (change : Change) (ds : Items) (n : ℕ) → number_of part ≡ Some n → (o : Option Data) (new : Data) → option_map array (changed_in n change ds o) ≡ Some new
      → inside other new ≡ option_and_then (λ m. get_item m ds) (number_of other)
  apart_item_found change ds n number None new set = absurd (none-some new set)
  apart_item_found change ds n number (Some held) new set = apart_item_set ds n number (change held) new set

  apart_item : (change : Change) (ds : Items) (o : Option ℕ) → number_of part ≡ o → (new : Data) → option_map array (changed_numbered o change ds) ≡ Some new
      → inside other new ≡ option_and_then (λ m. get_item m ds) (number_of other)
  apart_item change ds None is new set = absurd (none-some new set)
  apart_item change ds (Some n) is new set = apart_item_found change ds n is (get_item n ds) new set

  apart_inside : (change : Change) (held new : Data) → changed_inside part change held ≡ Some new → inside other new ≡ inside other held
  unfolding changed_member changed_item
  apart_inside change (table ms) new set = apart_member change ms (get_member part ms) new set
  apart_inside change (array ds) new set = apart_item change ds (number_of part) refl new set
  apart_inside change (string s) new set = absurd (none-some new set)
  apart_inside change (integer z) new set = absurd (none-some new set)
  apart_inside change (float x) new set = absurd (none-some new set)
  apart_inside change (boolean b) new set = absurd (none-some new set)
  apart_inside change (datetime dt) new set = absurd (none-some new set)

-- an empty table holds nothing where a path parts from another
nowhere : (path others : List (List ℕ)) → PartWays path others → held_at others (table no_members) ≡ None
unfolding held_at
nowhere [] others ways = absurd ways
nowhere (part ∷ path) [] ways = absurd ways
nowhere (part ∷ path) (other ∷ others) ways = refl

module _ (part : List ℕ) (path others : List (List ℕ)) (value : Data) (ways : PartWays path others) (ih : (held made : Data) → with_path path value held ≡ Some made → held_at others made ≡ held_at others held) where
  below_new : (ms : Members) → get_member part ms ≡ None → (r : Option Data) → with_path path value (table no_members) ≡ r → (new : Data) → option_map table (option_map (λ made. insert_member part made ms) r) ≡ Some new
      → option_and_then (held_at others) (inside part new) ≡ option_and_then (held_at others) (get_member part ms)
  below_new ms none None is new set = absurd (none-some new set)
  below_new ms none (Some made) is new set =
      let same : table (insert_member part made ms) ≡ new = same_Some _ _ set in
      rw (← same) (rw (get_member-insert_same part made ms, none) (ih (table no_members) made is ∙ nowhere path others ways))

  below_found : (ms : Members) (held : Data) → get_member part ms ≡ Some held → (r : Option Data) → with_path path value held ≡ r → (new : Data) → option_map table (option_map (λ made. replace_member part made ms) r) ≡ Some new
      → option_and_then (held_at others) (inside part new) ≡ option_and_then (held_at others) (get_member part ms)
  below_found ms held found None is new set = absurd (none-some new set)
  below_found ms held found (Some made) is new set =
      let same : table (replace_member part made ms) ≡ new = same_Some _ _ set in
      rw (← same) (rw (get_member-replace_same part made held ms found, found) (ih held made is))

  below_member : (ms : Members) (o : Option Data) → get_member part ms ≡ o → (new : Data) → option_map table (changed_at part (with_path path value) ms o) ≡ Some new
      → option_and_then (held_at others) (inside part new) ≡ option_and_then (held_at others) (get_member part ms)
  below_member ms None is new set = below_new ms is (with_path path value (table no_members)) refl new set
  below_member ms (Some held) is new set = below_found ms held is (with_path path value held) refl new set

  below_item_set : (ds : Items) (n : ℕ) (held : Data) → number_of part ≡ Some n → get_item n ds ≡ Some held → (r : Option Data) → with_path path value held ≡ r → (new : Data)
      → option_map array (option_map (λ made. replace_item n made ds) r) ≡ Some new
      → option_and_then (held_at others) (inside part new) ≡ option_and_then (held_at others) (inside part (array ds))
  below_item_set ds n held number found None is new set = absurd (none-some new set)
  below_item_set ds n held number found (Some made) is new set =
      let same : array (replace_item n made ds) ≡ new = same_Some _ _ set in
      rw (← same) (rw (number, get_item-replace_same n made held ds found, found) (ih held made is))

  below_item_found : (ds : Items) (n : ℕ) → number_of part ≡ Some n → (o : Option Data) → get_item n ds ≡ o → (new : Data) → option_map array (changed_in n (with_path path value) ds o) ≡ Some new
      → option_and_then (held_at others) (inside part new) ≡ option_and_then (held_at others) (inside part (array ds))
  below_item_found ds n number None is new set = absurd (none-some new set)
  below_item_found ds n number (Some held) is new set = below_item_set ds n held number is (with_path path value held) refl new set

  below_item : (ds : Items) (o : Option ℕ) → number_of part ≡ o → (new : Data) → option_map array (changed_numbered o (with_path path value) ds) ≡ Some new
      → option_and_then (held_at others) (inside part new) ≡ option_and_then (held_at others) (inside part (array ds))
  below_item ds None is new set = absurd (none-some new set)
  below_item ds (Some n) is new set = below_item_found ds n is (get_item n ds) refl new set

  below : (held new : Data) → changed_inside part (with_path path value) held ≡ Some new → option_and_then (held_at others) (inside part new) ≡ option_and_then (held_at others) (inside part held)
  unfolding changed_member changed_item
  below (table ms) new set = below_member ms (get_member part ms) refl new set
  below (array ds) new set = below_item ds (number_of part) refl new set
  below (string s) new set = absurd (none-some new set)
  below (integer z) new set = absurd (none-some new set)
  below (float x) new set = absurd (none-some new set)
  below (boolean b) new set = absurd (none-some new set)
  below (datetime dt) new set = absurd (none-some new set)

pub others_stay : (path others : List (List ℕ)) (value held new : Data) → PartWays path others → with_path path value held ≡ Some new → held_at others new ≡ held_at others held
unfolding with_path held_at
others_stay [] others value held new ways set = absurd ways
others_stay (part ∷ path) [] value held new ways set = absurd ways
others_stay (part ∷ path) (other ∷ others) value held new (inl apart) set = ap (option_and_then (held_at others)) (apart_inside part other apart (with_path path value) held new set)
others_stay (part ∷ path) (other ∷ others) value held new (inr (same, ways)) set =
    rw (← same) (below part path others value ways (λ before made is. others_stay path others value before made ways is) held new set)

-- ---- of a whole document

pub key_there : (path : List (List ℕ)) (value : Data) (before after : Members) → with_key path value before ≡ Some after → held_at path (table after) ≡ Some value
unfolding with_key with_path
key_there [] value before after set = absurd (none-some after set)
key_there (part ∷ path) value before after set = value_there (part ∷ path) value (table before) (table after) (ap (option_map table) set)

pub other_keys_stay : (path others : List (List ℕ)) (value : Data) (before after : Members) → PartWays path others → with_key path value before ≡ Some after
    → held_at others (table after) ≡ held_at others (table before)
unfolding with_key with_path
other_keys_stay [] others value before after ways set = absurd (none-some after set)
other_keys_stay (part ∷ path) others value before after ways set = others_stay (part ∷ path) others value (table before) (table after) ways (ap (option_map table) set)
