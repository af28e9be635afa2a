use Rattle.std.proofs.Common.{◌≡◌, take}
use Rattle.gs_figure_sheets.specs.Between.{places_between}
use Rattle.gs_figure_sheets.proofs.between.places_between.Given as goal

-- the places that the peers so far have
abbrev pub invariant-loop-peer : goal.invariant-loop-peer
invariant-loop-peer l = l.sum ≡ places_between l.from l.to (take l.peer-index l.peers)
