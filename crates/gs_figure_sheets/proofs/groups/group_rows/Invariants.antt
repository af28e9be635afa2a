use Rattle.std.proofs.Common.{◌≡◌, take}
use Rattle.std.specs.List.{flat_map}
use Rattle.gs_figure_sheets.specs.Groups.{dealt_of, rows_from}
use Rattle.gs_figure_sheets.proofs.groups.group_rows.Given as goal

-- the rows from the groups so far
abbrev pub invariant-loop-from : goal.invariant-loop-from
invariant-loop-from l = l.rows ≡ flat_map (rows_from (dealt_of l.dealings) l.parties) (take l.from-index l.parties)
