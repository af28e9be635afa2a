use Rattle.std.proofs.Common.{◌≡◌, ◌+◌, drop, map, string_bytes}
use Rattle.toml.specs.View.{table_view}
use Rattle.gs_edit.specs.Edits.{edited}
use Rattle.gs_edit.proofs.edits.edit_all.Given as goal

abbrev pub invariant-loop-number : goal.invariant-loop-number
invariant-loop-number l =
    edited (l.number + 1) (map string_bytes (drop l.number l.arguments)) (table_view l.table) ≡ edited 1 (map string_bytes l.fn.arguments) (table_view l.fn.table)
