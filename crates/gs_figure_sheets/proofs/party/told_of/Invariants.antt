use Rattle.std.proofs.Common.{◌≡◌, take}
use Rattle.std.specs.Prelude.{filter}
use Rattle.gs_reach.specs.Chosen.{is_chosen}
use Rattle.gs_figure_sheets.proofs.party.told_of.Given as goal

-- those of the peers so far whose traces count
abbrev pub invariant-loop-peer : goal.invariant-loop-peer
invariant-loop-peer l = l.list ≡ filter (is_chosen l.among) (take l.peer-index l.peers)
