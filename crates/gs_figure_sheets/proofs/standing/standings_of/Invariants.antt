use Rattle.std.proofs.Common.{◌≡◌, List, length, map, take}
use Rattle.gs_reach.specs.declared.chosen.Chosen.{Chosen}
use Rattle.gs_figure_sheets.specs.Standings.{meshes_if, standing_of}
use Rattle.gs_figure_sheets.proofs.Standings.{Life, left}
use Rattle.gs_figure_sheets.proofs.standing.standings_of.Given as goal

-- those so far stand
abbrev pub invariant-loop-peer : goal.invariant-loop-peer
invariant-loop-peer l =
    (goal.iterator-loop-peer).can_next l.peer-iterator
    × (goal.iterator-loop-peer).is_finite l.peer-iterator
    × ((among : Chosen) (lives : List Life) → l.meshes ≡ map (meshes_if among) lives → l.yielded ≡ take (length l.yielded) (map left lives) → l.standings ≡ map (standing_of among) (take (length l.yielded) lives))
