use Rattle.std.proofs.Common.{◌≡◌, map, take}
use Rattle.gs_figure_sheets.specs.Between.{only_by}
use Rattle.gs_figure_sheets.specs.Lines.{peer_figures}
use Rattle.gs_figure_sheets.proofs.lines.figures_of_peers.Given as goal

-- the figures of those peers so far whose traces count
abbrev pub invariant-loop-peer : goal.invariant-loop-peer
invariant-loop-peer l = l.rows.items ≡ map (peer_figures l.known l.among l.peers) (only_by l.among (take l.peer-index l.peers))
