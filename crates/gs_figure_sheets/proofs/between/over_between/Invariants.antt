use Rattle.std.proofs.Common.{◌≡◌, take}
use Rattle.gs_figure_sheets.specs.Between.{over_between}
use Rattle.gs_figure_sheets.proofs.between.over_between.Given as goal

-- the sum over the links so far
abbrev pub invariant-loop-link : goal.invariant-loop-link
invariant-loop-link l = l.sum ≡ over_between l.from l.to l.kind (take l.link-index l.links)
