use Rattle.std.proofs.Common.{◌≡◌, take}
use Rattle.gs_figure_sheets.specs.Between.{lowest_between}
use Rattle.gs_figure_sheets.proofs.between.lowest_between.Given as goal

-- the lowest of the opinions so far
abbrev pub invariant-loop-pair : goal.invariant-loop-pair
invariant-loop-pair l = l.lowest ≡ lowest_between l.by l.about (take l.pair-index l.pairs)
