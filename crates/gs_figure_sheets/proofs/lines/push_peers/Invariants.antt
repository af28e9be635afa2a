use Rattle.std.proofs.Common.{◌≡◌, ◌++◌, map, take}
use Rattle.gs_figure_sheets.specs.Lines.{peer_line}
use Rattle.gs_figure_sheets.proofs.lines.push_peers.Given as goal

-- the rows so far come after what was there
abbrev pub invariant-loop-row : goal.invariant-loop-row
invariant-loop-row l = l.lines ≡ l.initial.lines ++ map (peer_line l.plan) (take l.row-index l.rows)
