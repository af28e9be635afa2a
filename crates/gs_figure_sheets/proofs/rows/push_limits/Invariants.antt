use Rattle.std.proofs.Common.{◌≡◌, ◌++◌, take}
use Rattle.std.specs.Prelude.{map}
use Rattle.gs_figure_sheets.specs.Reach.{within_row}
use Rattle.gs_figure_sheets.proofs.rows.push_limits.Given as goal

-- the rows of the limits so far come after what was there
abbrev pub invariant-loop-limit : goal.invariant-loop-limit
invariant-loop-limit l = l.rows ≡ l.initial.rows ++ map (within_row l.all) (take l.limit-index l.within)
