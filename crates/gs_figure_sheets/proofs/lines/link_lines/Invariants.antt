use Rattle.std.proofs.Common.{◌≡◌, map, take}
use Rattle.gs_figure_sheets.specs.Lines.{link_line, links_at}
use Rattle.gs_figure_sheets.proofs.lines.link_lines.Given as goal

-- the rows of those links so far that have such an end
abbrev pub invariant-loop-link : goal.invariant-loop-link
invariant-loop-link l = l.lines ≡ map (link_line l.plan) (links_at l.among (take l.link-index l.links))
