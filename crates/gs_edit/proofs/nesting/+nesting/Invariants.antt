use Rattle.std.proofs.Common.{◌≡◌, nat_le, drop}
use Rattle.toml.specs.Data.{items_depth, members_depth}
use Rattle.toml.specs.View.{items_view, members_view}
use Rattle.gs_edit.proofs.nesting.+nesting.Given as goal

abbrev pub invariant-list_nests_within-items : goal.invariant-list_nests_within-items
invariant-list_nests_within-items l =
    nat_le (items_depth (items_view (drop l.item-index l.item-items))) l.limit ≡ nat_le (items_depth (items_view l.item-items)) l.limit

abbrev pub invariant-table_nests_within-members : goal.invariant-table_nests_within-members
invariant-table_nests_within-members l =
    (goal.iterator-table_nests_within-members).can_next l._key-iterator ×
    (goal.iterator-table_nests_within-members).is_finite l._key-iterator ×
    (nat_le (members_depth (members_view l._key-iterator)) l.limit ≡ nat_le (members_depth (members_view l.table.entries)) l.limit)
