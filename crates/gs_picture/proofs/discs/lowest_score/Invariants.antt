use Rattle.std.proofs.Common.{◌≡◌, take}
use Rattle.gs_picture.specs.Discs.{lowest, scores_of}
use Rattle.gs_picture.proofs.discs.lowest_score.Given as goal

-- the lowest that the peers so far give
abbrev pub invariant-loop-giver : goal.invariant-loop-giver
invariant-loop-giver l = l.so_far ≡ lowest (scores_of l.of (take l.giver-index l.peers) l.peer)
