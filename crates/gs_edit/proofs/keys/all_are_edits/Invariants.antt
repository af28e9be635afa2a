use Rattle.std.proofs.Common.{◌≡◌, drop, map, string_bytes}
use Rattle.std.specs.List.{list_all}
use Rattle.gs_edit.specs.Keys.{is_edit}
use Rattle.gs_edit.proofs.keys.all_are_edits.Given as goal

abbrev pub invariant-loop-argument : goal.invariant-loop-argument
invariant-loop-argument l =
    list_all is_edit (map string_bytes (drop l.argument-index l.arguments)) ≡ list_all is_edit (map string_bytes l.arguments)
