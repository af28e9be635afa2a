use Rattle.std.proofs.Common.{◌≡◌, ◌<◌, ◌∙◌, None, Some, rules, option_map, string_bytes, length, refl, sym, ap, arith}
use Rattle.std.proofs.lemmas.Grind.{common_steps}
use Rattle.toml.specs.Data.{array, as_array, as_table, table, get_item}
use Rattle.toml.specs.declared.value.Value.{the_lemmas}
use Rattle.toml.specs.View.{array_view, items_view, members_view, table_view, view}
use Rattle.toml.proofs.Views.{get_item_within, view-Array, view-Table}
use Rattle.gs_edit.specs.Documents.{with_path}
use Rattle.gs_edit.proofs.Setting.{found_at, missing_at, members_view-set_value, members_view-insert_entry, items_view-written, with_key-found, with_key-found-none, with_key-new, with_key-new-none, with_item-found, with_item-found-none, with_item-past, with_item-no_number, with_path-table, with_path-list, with_path-other, rest_shorter, sets_err}
use Rattle.gs_edit.proofs.places.+set_in_table.Goals as goal

-- ---- a list

pub set_in_list-returns-in_default : goal.set_in_list-returns-in_default
set_in_list-returns-in_default t c =
    λ _. rw c.first_part.ensures.parts (with_item-no_number _ _ _ c.args.items.now.items (omega (arith, c.args.items.now.small, c.args.items.now.ok.0, c.args.items.now.ok.1)) c.in_default.ensures.none)

pub set_in_list-returns-then-place-len : goal.set_in_list-returns-then-place-len
set_in_list-returns-then-place-len t c =
    λ _. rw c.first_part.ensures.parts
    (with_item-past _ _ _ c.args.items.now.items c.in-Some.place c.in-Some.ensures.number (omega (arith, c.if-place-len.true, c.len.ensures, c.args.items.now.ok.0)))

pub set_in_list-returns-in_err-items : goal.set_in_list-returns-in_err-items
set_in_list-returns-in_err-items t c =
    let vs = c.args.items.now.items in
    let held = c.index_mut.result.now in
    let within : c.in-Some.place < length vs = omega (arith, c.if-place-len.false, c.len.ensures, c.args.items.now.ok.0) in
    let found : get_item c.in-Some.place (items_view vs) ≡ Some (view held) = sym (ap (λ v. Some (view v)) c.index_mut.ensures.value ∙ get_item_within vs c.in-Some.place held within) in
    sets_err _ c.from_residual.result _ c.in_err-items.field-0.0 _ c.from_residual.ensures.1 (λ y p. p) λ refused.
    rw c.first_part.ensures.parts
    (with_item-found-none _ _ _ (items_view vs) c.in-Some.place (view held) c.in-Some.ensures.number found (rw c.take-held.ensures at (c.in_err-items.ensures refused)))

pub set_in_list-returns : goal.set_in_list-returns
set_in_list-returns t c =
    let vs = c.args.items.now.items in
    let held = c.index_mut.result.now in
    let within : c.in-Some.place < length vs = omega (arith, c.if-place-len.false, c.len.ensures, c.args.items.now.ok.0) in
    let found : get_item c.in-Some.place (items_view vs) ≡ Some (view held) = sym (ap (λ v. Some (view v)) c.index_mut.ensures.value ∙ get_item_within vs c.in-Some.place held within) in
    let made = c.in_ok-items.field-0 in
    let written = items_view-written vs c.in-Some.place c.take-held.new.value made in
    rw (c.first_part.ensures.parts, written)
    (with_item-found _ _ _ (items_view vs) c.in-Some.place (view held) (view made) c.in-Some.ensures.number found (rw c.take-held.ensures at c.in_ok-items.ensures))

-- ---- a table

pub set_in_table-with_rest-requires : goal.set_in_table-with_rest-requires
set_in_table-with_rest-requires t c =
    (omega (arith, rest_shorter c.first_part.result.1 c.args.key.now c.first_part.ensures.shorter), tt)

pub set_in_table-returns-in_err-slot-in-Some : goal.set_in_table-returns-in_err-slot-in-Some
set_in_table-returns-in_err-slot-in-Some t c =
    let found = found_at c.first_part.result.0.now c.args.table.now c.get_mut.result c.in-Some.slot c.in-Some.is c.get_mut.ensures.value in
    sets_err _ c.from_residual.result _ c.in_err-slot-in-Some.field-0.0 _ c.from_residual.ensures.1 (λ y p. p) λ refused.
    rw c.first_part.ensures.parts
    (with_key-found-none _ _ _ (table_view c.args.table.now) (view c.in-Some.slot.now) found (rw c.take-held.ensures at (c.in_err-slot-in-Some.ensures refused)))

pub set_in_table-with_rest-requires-in-None : goal.set_in_table-with_rest-requires-in-None
set_in_table-with_rest-requires-in-None t c = (omega (arith, rest_shorter c.first_part.result.1 c.args.key.now c.first_part.ensures.shorter), tt)

pub set_in_table-returns-in_err-made-in-None : goal.set_in_table-returns-in_err-made-in-None
set_in_table-returns-in_err-made-in-None t c =
    let none = missing_at c.first_part.result.0.now c.args.table.now c.get_mut.result c.in-None.is c.get_mut.ensures.value in
    sets_err _ c.from_residual-in_err-made-in-None.result _ c.in_err-made-in-None.field-0.0 _ c.from_residual-in_err-made-in-None.ensures.1 (λ y p. p) λ refused.
    rw c.first_part.ensures.parts
    (with_key-new-none _ _ _ (table_view c.args.table.now) none (rw (view-Table c.new.result, c.new.ensures.empty) at (c.in_err-made-in-None.ensures refused)))

pub set_in_table-returns-in_ok-slot-in-Some : goal.set_in_table-returns-in_ok-slot-in-Some
set_in_table-returns-in_ok-slot-in-Some t c =
    let part = c.first_part.result.0.now in
    let found = found_at part c.args.table.now c.get_mut.result c.in-Some.slot c.in-Some.is c.get_mut.ensures.value in
    let made = c.in_ok-slot-in-Some.field-0 in
    let written = ap members_view (c.get_mut.follows.holds made).0 ∙ members_view-set_value part c.args.table.now.entries made in
    rw (c.first_part.ensures.parts, written)
    (with_key-found _ _ _ (table_view c.args.table.now) (view c.in-Some.slot.now) (view made) found (rw c.take-held.ensures at c.in_ok-slot-in-Some.ensures))

pub set_in_table-returns-in_ok-insert-in-None : goal.set_in_table-returns-in_ok-insert-in-None
set_in_table-returns-in_ok-insert-in-None t c =
    let part = c.first_part.result.0.now in
    let none = missing_at part c.args.table.now c.get_mut.result c.in-None.is c.get_mut.ensures.value in
    let made = c.in_ok-made-in-None.made in
    let name = c.in_ok-from_str-in-None.field-0 in
    let named : string_bytes name ≡ part = c.in_ok-from_str-in-None.ensures.ok in
    let written = ap members_view (rw c.get_mut.follows.holds-at-none at c.in_ok-insert-in-None.ensures.entries) ∙ members_view-insert_entry c.args.table.now.entries name made in
    rw (c.first_part.ensures.parts, written, named)
    (with_key-new _ _ _ (table_view c.args.table.now) (view made) none (rw (view-Table c.new.result, c.new.ensures.empty) at c.in_ok-made-in-None.ensures))

-- ---- a place

pub with_rest-returns-in_default : goal.with_rest-returns-in_default
unfolding with_path
with_rest-returns-in_default t c = rw c.in_default.is refl

pub with_rest-returns-in_err-set_in_table-in-Table :
    goal.with_rest-returns-in_err-set_in_table-in-Table
with_rest-returns-in_err-set_in_table-in-Table t c =
    let m = c.in-Table.table in
    sets_err _ c.from_residual.result _ c.in_err-set_in_table-in-Table.field-0.0 _ c.from_residual.ensures.1 (λ y p. p) λ refused.
    rw (c.in-Some.is, c.in-Table.is, view-Table m)
    (with_path-table c.in-Some.key.now (view c.args.value) (table_view m) ∙ ap (option_map table) (c.in_err-set_in_table-in-Table.ensures refused))

pub with_rest-returns-in-Table : goal.with_rest-returns-in-Table
with_rest-returns-in-Table t c =
    let m = c.in-Table.table in
    rw (c.in-Some.is, c.in-Table.is, view-Table m, view-Table c.set_in_table.new.table)
    (with_path-table c.in-Some.key.now (view c.args.value) (table_view m) ∙ ap (option_map table) c.in_ok-set_in_table-in-Table.ensures)

pub with_rest-returns-in_err-set_in_list-in-Array :
    goal.with_rest-returns-in_err-set_in_list-in-Array
with_rest-returns-in_err-set_in_list-in-Array t c =
    let v = c.in-Array.items in
    sets_err _ c.from_residual-in_err-set_in_list-in-Array.result _ c.in_err-set_in_list-in-Array.field-0.0 _ c.from_residual-in_err-set_in_list-in-Array.ensures.1 (λ y p. p) λ refused.
    rw (c.in-Some.is, c.in-Array.is, view-Array v)
    (with_path-list c.in-Some.key.now (view c.args.value) (array_view v) ∙ ap (option_map array) (c.in_err-set_in_list-in-Array.ensures refused))

pub with_rest-returns-in-Array : goal.with_rest-returns-in-Array
with_rest-returns-in-Array t c =
    let v = c.in-Array.items in
    rw (c.in-Some.is, c.in-Array.is, view-Array v, view-Array c.set_in_list.new.items)
    (with_path-list c.in-Some.key.now (view c.args.value) (array_view v) ∙ ap (option_map array) c.in_ok-set_in_list-in-Array.ensures)

pub with_rest-returns : goal.with_rest-returns
with_rest-returns t c =
    let no_table : as_table (view c.args.held) ≡ None = search (rules, the_lemmas, c.in_default-held.not-Table) in
    let no_list : as_array (view c.args.held) ≡ None = grind (arith, common_steps, the_lemmas, c.in_default-held.not-Array) in
    λ _. rw c.in-Some.is (with_path-other c.in-Some.key.now (view c.args.value) (view c.args.held) no_table no_list)
