use Rattle.std.proofs.Common.{◌≡◌, ◌++◌, drop}
use Rattle.std.specs.Prelude.{map}
use Rattle.std.specs.List.{enumerate_from}
use Rattle.gs_sheets.specs.Tables.{width_of, widths}
use Rattle.gs_sheets.proofs.table.widths.Given as goal

-- the widths so far, and those of the columns that are left
abbrev pub invariant-loop-column : goal.invariant-loop-column
invariant-loop-column l =
    l.list ++ map (λ x. width_of l.rows x.0) (enumerate_from l.column (drop l.column l.header)) ≡ widths l.header l.rows
