-- Setting a value at a path, step by step.
use Rattle.std.proofs.Common.{◌≡◌, ◌≢◌, ◌+◌, ◌*◌, ◌<◌, ◌≤◌, ◌^◌, ◌==◌, ℕ, zero, suc, Bool, true, false, List, [], ◌∷◌, length, slice_set, Option, Some, None, option_map, Result, Ok, Err, String, Global, BTreeMap, Bor, IfSome, MutBor, Ordering, Less, Equal, Greater, string_bytes, is_eq, refl, sym, ap, ◌∙◌, inl, inr, arith}
use Rattle.std.proofs.lemmas.Bool.{cases_Bool}
use Rattle.std.specs.Prelude.{if◌then◌else◌}
use Rattle.std.specs.BTreeMap.{get_by, insert_entry, is_at}
use Rattle.std.specs.Map.{set_value}
use Rattle.std.specs.Option.{option_copied_mut}
use Rattle.std.specs.Ordering.{match_ordering}
use Rattle.std.specs.Result.{IsErrAnd}
use Rattle.std.specs.String.{string_cmp}
use Rattle.std.proofs.lemmas.Option.{none-some}
use Rattle.toml.specs.Data.{Data, string, integer, float, boolean, datetime, array, table, as_array, as_table, Items, item, Members, no_members, get_item, get_member}
use Rattle.toml.specs.View.{items_view, members_view, table_view, view}
use Rattle.toml.specs.declared.value.Value.{Value}
use Rattle.toml.proofs.Views.{Entry, at_text, get_item_past, view-lookup}
use Rattle.gs_edit.specs.Keys.{number_of, onto_first, path_of}
use Rattle.gs_edit.specs.Documents.{Change, changed_inside, changed_item, changed_member, insert_member, replace_item, replace_member, with_item, with_key, with_path}
use Rattle.gs_edit.specs.Sets.{Sets}
use Rattle.gs_edit.specs.Rest.{text_left}
use Rattle.gs_edit.specs.declared.places.PlaceFault.{PlaceFault}
use Rattle.gs_edit.specs.declared.places.PlaceFault.TheVariants.{NoMemory}

-- ---- what a map holds

-- what `get_mut` found
pub found_at : (key : List ℕ) (m : BTreeMap (String Global) Value) (r : Option (MutBor Value)) (slot : MutBor Value) → r ≡ Some slot → option_copied_mut r ≡ get_by (at_text key) m
    → get_member key (table_view m) ≡ Some (view slot.now)
found_at key m r slot is value =
    sym (view-lookup key m.entries) ∙ ap (option_map view) (sym (rw is at value))

pub missing_at : (key : List ℕ) (m : BTreeMap (String Global) Value) (r : Option (MutBor Value)) → r ≡ None → option_copied_mut r ≡ get_by (at_text key) m → get_member key (table_view m) ≡ None
missing_at key m r is value =
    sym (view-lookup key m.entries) ∙ ap (option_map view) (sym (rw is at value))

-- what writing through it leaves
pub members_view-set_value : (key : List ℕ) (es : List Entry) (v : Value) → members_view (set_value (is_at (at_text key)) es v) ≡ replace_member key (view v) (members_view es)
members_view-set_value key [] v = refl
members_view-set_value key (e ∷ es) v =
    elim (cases_Bool (is_eq (at_text key e.0))) [
      | inl same ↦ rw same
      | inr other ↦ rw (other, members_view-set_value key es v)
    ]

match_members : (o : Ordering) (a b c : List Entry) → members_view (match_ordering o a b c) ≡ match_ordering o (members_view a) (members_view b) (members_view c)
match_members Less a b c = refl
match_members Equal a b c = refl
match_members Greater a b c = refl

pub members_view-insert_entry : (es : List Entry) (k : String Global) (v : Value) → members_view (insert_entry string_cmp es k v) ≡ insert_member (string_bytes k) (view v) (members_view es)
members_view-insert_entry [] k v = refl
members_view-insert_entry (e ∷ es) k v = match_members (string_cmp k e.0) _ _ _ ∙ rw (members_view-insert_entry es k v)

-- ---- what a list holds

-- an item that was taken out and then written
pub items_view-written : (vs : List Value) (n : ℕ) (taken made : Value) → items_view (slice_set (slice_set vs n taken) n made) ≡ replace_item n (view made) (items_view vs)
items_view-written [] n taken made = refl
items_view-written (v ∷ vs) zero taken made = refl
items_view-written (v ∷ vs) (suc n) taken made = ap (item (view v)) (items_view-written vs n taken made)

-- ---- a step along a path

module _ (part : List ℕ) (path : List (List ℕ)) (value : Data) where
  pub with_key-found : (ms : Members) (held made : Data) → get_member part ms ≡ Some held → with_path path value held ≡ Some made
      → with_key (part ∷ path) value ms ≡ Some (replace_member part made ms)
  unfolding with_key changed_member
  with_key-found ms held made found step = rw (found, step) refl

  pub with_key-found-none : (ms : Members) (held : Data) → get_member part ms ≡ Some held → with_path path value held ≡ None → with_key (part ∷ path) value ms ≡ None
  unfolding with_key changed_member
  with_key-found-none ms held found step = rw (found, step) refl

  pub with_key-new : (ms : Members) (made : Data) → get_member part ms ≡ None → with_path path value (table no_members) ≡ Some made
      → with_key (part ∷ path) value ms ≡ Some (insert_member part made ms)
  unfolding with_key changed_member
  with_key-new ms made none step = rw (none, step) refl

  pub with_key-new-none : (ms : Members) → get_member part ms ≡ None → with_path path value (table no_members) ≡ None → with_key (part ∷ path) value ms ≡ None
  unfolding with_key changed_member
  with_key-new-none ms none step = rw (none, step) refl

  pub with_item-found : (ds : Items) (n : ℕ) (held made : Data) → number_of part ≡ Some n → get_item n ds ≡ Some held → with_path path value held ≡ Some made
      → with_item (part ∷ path) value ds ≡ Some (replace_item n made ds)
  unfolding with_item changed_item
  with_item-found ds n held made number found step = rw (number, found, step) refl

  pub with_item-found-none : (ds : Items) (n : ℕ) (held : Data) → number_of part ≡ Some n → get_item n ds ≡ Some held → with_path path value held ≡ None
      → with_item (part ∷ path) value ds ≡ None
  unfolding with_item changed_item
  with_item-found-none ds n held number found step = rw (number, found, step) refl

  pub with_item-past : (vs : List Value) (n : ℕ) → number_of part ≡ Some n → length vs ≤ n → with_item (part ∷ path) value (items_view vs) ≡ None
  unfolding with_item changed_item
  with_item-past vs n number past = rw (number, sym (get_item_past vs n past)) refl

  no_number : (vs : List Value) (o : Option ℕ) → number_of part ≡ o → ((n : ℕ) → o ≡ Some n → length vs ≤ n) → with_item (part ∷ path) value (items_view vs) ≡ None
  unfolding with_item changed_item
  no_number vs None number past = rw number refl
  no_number vs (Some n) number past = with_item-past vs n number (past n refl)

  -- there is no number, or it is past the end of each list
  pub with_item-no_number : (vs : List Value) → length vs < 2 ^ 64 → ((n : ℕ) → number_of part ≡ Some n → 2 ^ 64 ≤ n) → with_item (part ∷ path) value (items_view vs) ≡ None
  with_item-no_number vs short large = no_number vs (number_of part) refl (λ n is. omega (arith, short, large n is))

-- ---- a path that a key writes

-- a key has a first part
first_of : (dot : Bool) (byte : ℕ) (rest parts : List (List ℕ)) → (part : List ℕ) × (path : List (List ℕ)) × ((if dot then [] ∷ rest else onto_first byte parts) ≡ part ∷ path)
first_of true byte rest parts = ([], rest, refl)
first_of false byte rest [] = (byte ∷ [], [], refl)
first_of false byte rest (part ∷ parts) = (byte ∷ part, parts, refl)

some_part : (key : List ℕ) → (part : List ℕ) × (path : List (List ℕ)) × (path_of key ≡ part ∷ path)
some_part [] = ([], [], refl)
some_part (byte ∷ bytes) = first_of (byte == 46) byte (path_of bytes) (path_of bytes)

in_table : (path : List (List ℕ)) (part : List ℕ) (parts : List (List ℕ)) (value : Data) (ms : Members) → path ≡ part ∷ parts
    → with_path path value (table ms) ≡ option_map table (with_key path value ms)
unfolding with_path with_key
in_table path part parts value ms is = rw is refl

in_list : (path : List (List ℕ)) (part : List ℕ) (parts : List (List ℕ)) (value : Data) (ds : Items) → path ≡ part ∷ parts
    → with_path path value (array ds) ≡ option_map array (with_item path value ds)
unfolding with_path with_item
in_list path part parts value ds is = rw is refl

in_other : (path : List (List ℕ)) (part : List ℕ) (parts : List (List ℕ)) (value held : Data) → path ≡ part ∷ parts → ((way : List (List ℕ)) → changed_inside part (with_path way value) held ≡ None)
    → with_path path value held ≡ None
unfolding with_path
in_other path part parts value held is none = rw is (none parts)

-- what is neither a table nor a list
other_data : (held : Data) → as_table held ≡ None → as_array held ≡ None → (part : List ℕ) (change : Change) → changed_inside part change held ≡ None
other_data (string s) no_table no_list part change = refl
other_data (integer z) no_table no_list part change = refl
other_data (float x) no_table no_list part change = refl
other_data (boolean b) no_table no_list part change = refl
other_data (datetime dt) no_table no_list part change = refl
other_data (array ds) no_table no_list part change = absurd (none-some ds (sym no_list))
other_data (table ms) no_table no_list part change = absurd (none-some ms (sym no_table))

module _ (key : List ℕ) (value : Data) where
  pub with_path-other : (held : Data) → as_table held ≡ None → as_array held ≡ None → with_path (path_of key) value held ≡ None
  with_path-other held no_table no_list =
      let (part, parts, is) = some_part key in
      in_other (path_of key) part parts value held is (λ way. other_data held no_table no_list part (with_path way value))

  pub with_path-table : (ms : Members) → with_path (path_of key) value (table ms) ≡ option_map table (with_key (path_of key) value ms)
  with_path-table ms = let (part, parts, is) = some_part key in in_table (path_of key) part parts value ms is

  pub with_path-list : (ds : Items) → with_path (path_of key) value (array ds) ≡ option_map array (with_item (path_of key) value ds)
  with_path-list ds = let (part, parts, is) = some_part key in in_list (path_of key) part parts value ds is

-- ---- what is left

-- what is left of a key is shorter
pub rest_shorter : (rest : Option (Bor (List ℕ))) (key : List ℕ) → IfSome rest (λ more. length more.now < length key) → text_left rest < 2 * length key + 1
rest_shorter None key shorter = omega arith
rest_shorter (Some more) key shorter = omega (arith, shorter)

-- ---- errors

-- an error that a `?` passes on
pub sets_err : {A B : Type 0} (f : A → B) (r : Result A PlaceFault) (expected : Option B) (e : PlaceFault) (Q : PlaceFault → Type 0)
    → IsErrAnd r Q → ((y : PlaceFault) → Q y → y ≡ e) → (e ≢ NoMemory → expected ≡ None) → Sets f r expected
sets_err f (Ok a) expected e Q h same refused = absurd h
sets_err f (Err y) expected e Q h same refused = λ other. refused (λ m. other (same y h ∙ m))
