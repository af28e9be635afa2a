use Rattle.std.proofs.Common.{◌≡◌, take}
use Rattle.gs_figure_sheets.specs.Between.{span_between}
use Rattle.gs_figure_sheets.proofs.between.span_between.Given as goal

-- the span of what the peers so far score
abbrev pub invariant-loop-peer : goal.invariant-loop-peer
invariant-loop-peer l = l.span ≡ span_between l.by l.about (take l.peer-index l.peers)
