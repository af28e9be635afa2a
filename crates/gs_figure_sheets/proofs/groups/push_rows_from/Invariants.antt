use Rattle.std.proofs.Common.{◌≡◌, ◌++◌, map, take}
use Rattle.gs_figure_sheets.specs.Groups.{dealt_of, group_row}
use Rattle.gs_figure_sheets.proofs.groups.push_rows_from.Given as goal

-- the rows to the groups so far come after what was there
abbrev pub invariant-loop-to : goal.invariant-loop-to
invariant-loop-to l = l.rows ≡ l.initial.rows ++ map (group_row (dealt_of l.dealings) l.from) (take l.to-index l.parties)
