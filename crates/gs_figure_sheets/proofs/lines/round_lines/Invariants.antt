use Rattle.std.proofs.Common.{◌≡◌, map, take}
use Rattle.gs_figure_sheets.specs.Lines.{round_line}
use Rattle.gs_figure_sheets.proofs.lines.round_lines.Given as goal

-- the rows of the rounds so far
abbrev pub invariant-loop-round : goal.invariant-loop-round
invariant-loop-round l = l.lines ≡ map (round_line l.opinions) (take l.round-index l.rounds)
