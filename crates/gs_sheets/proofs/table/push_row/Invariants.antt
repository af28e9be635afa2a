use Rattle.std.proofs.Common.{◌≡◌, ◌++◌, drop, length}
use Rattle.std.specs.List.{enumerate_from, flat_map}
use Rattle.gs_sheets.specs.Tables.{cell_text, place_in}
use Rattle.gs_sheets.proofs.table.push_row.Given as goal

-- the cells so far, and those that are left, come after what was there
abbrev pub invariant-loop-column : goal.invariant-loop-column
invariant-loop-column l =
    l.text.items ++ flat_map (λ x. cell_text l.layout (place_in (length l.row) x.0) x.1) (enumerate_from l.column (drop l.column l.row))
    ≡ l.initial.text.items ++ flat_map (λ x. cell_text l.layout (place_in (length l.row) x.0) x.1) (enumerate_from 0 l.row)
